-- The code of a process: the mapping of an address, found by halving, and the order of its modules.
use Rattle.std.proofs.Common.{◌≡◌, ◌∙◌, ℕ, zero, suc, ◌<◌, ◌≤◌, ◌&&◌, Bool, true, false, List, [], ◌∷◌, length, get_or, map, cond, nat_le, nat_lt, Option, Some, None, refl, sym, ap, subst, arith}
use Rattle.std.specs.List.{cons_option, slice_get}
use Rattle.std.specs.Option.{option_and_then, option_map}
use Rattle.std.proofs.lemmas.Bool.{le-leb, lt-ltb, le-ltb, lt-leb}
use Rattle.cfi_read_core.specs.SliceReaders.{EndianSlice}
use Rattle.cfi_read_core.specs.declared.endianity.RunTimeEndian.{RunTimeEndian}
use Rattle.cfi_step.specs.declared.module.LoadedModule.{LoadedModule}
use Rattle.cfi_step.specs.CodeRanges.{begins_from}
use Rattle.cfi_step.specs.Modules.{are_sorted, code_end, code_start}
use Rattle.cfi_mapped.specs.declared.mappings.MappedCode.{MappedCode}
use Rattle.cfi_processes.specs.KnownFiles.{KnownCode, KnownFile}
use Rattle.cfi_processes.specs.Sites.{mapped_at}
use Rattle.cfi_processes.specs.ProcessModules.{mapped_module, file_module, modules_in}
use Rattle.cfi_mapped.specs.Mappings.{AreMappedInOrder, has_byte_at}
use Rattle.cfi_processes.specs.Modules.{FileModule, loaded_module, loaded_module_view}
use Rattle.cfi_processes.specs.Objects.{bias_of, debug_by, object_module}

-- ---- the order of modules

abbrev in_order : ℕ → List FileModule → Bool
in_order low [] = true
in_order low (m ∷ ms) = (nat_le low m.start && nat_le m.start m.end) && in_order m.end ms

same_order : (low : ℕ) (ms : List (LoadedModule (EndianSlice RunTimeEndian))) → are_sorted low ms ≡ in_order low (map loaded_module_view ms)
same_order low [] = refl
same_order low (m ∷ ms) = ap (λ (b : Bool). begins_from code_start code_end low m && b) (same_order m.end ms)

-- a module spans what is mapped
abbrev Spans : MappedCode → FileModule → Type 0
Spans mapped m = (m.start ≡ mapped.start) × (m.end ≡ mapped.end)

spans_of : (mapped : MappedCode) (number : ℕ) (code : KnownCode) (bias : Option ℕ) (m : FileModule) → option_map (loaded_module number code.object.section code.object.header code.tables.table (debug_by code.object.debug code.tables.debug) mapped) bias ≡ Some m → Spans mapped m
spans_of mapped number code None m e = cc
spans_of mapped number code (Some bias) m e =
    let is : m ≡ loaded_module number code.object.section code.object.header code.tables.table (debug_by code.object.debug code.tables.debug) mapped bias = cc in
    (ap (λ (x : FileModule). x.start) is, ap (λ (x : FileModule). x.end) is)

spans_in : (mapped : MappedCode) (number : ℕ) (o : Option KnownCode) (m : FileModule) → option_and_then (λ code. object_module number code.object code.tables mapped) o ≡ Some m → Spans mapped m
spans_in mapped number None m e = cc
spans_in mapped number (Some code) m e = spans_of mapped number code (bias_of code.object mapped) m e

spans_by : (mapped : MappedCode) (number : ℕ) (file : Option KnownFile) (m : FileModule) → option_and_then (file_module mapped number) file ≡ Some m → Spans mapped m
spans_by mapped number None m e = cc
spans_by mapped number (Some file) m e = spans_in mapped number file.code m e

spans_numbered : (files : List KnownFile) (mapped : MappedCode) (object : Option ℕ) (m : FileModule)
    → option_and_then (λ number. option_and_then (file_module mapped number) (slice_get files number)) object ≡ Some m → Spans mapped m
spans_numbered files mapped None m e = cc
spans_numbered files mapped (Some number) m e = spans_by mapped number (slice_get files number) m e

spans : (files : List KnownFile) (mapped : MappedCode) (m : FileModule) → mapped_module files mapped ≡ Some m → Spans mapped m
spans files mapped m e = spans_numbered files mapped mapped.object m e

lower : (list : List MappedCode) (low high : ℕ) → low ≤ high → AreMappedInOrder high list → AreMappedInOrder low list
lower [] low high le ordered = tt
lower (mapped ∷ list) low high le (from, some, rest) = (omega (arith, le, from), some, rest)

module _ (files : List KnownFile) where
  code_in_order : (list : List MappedCode) (low : ℕ) → AreMappedInOrder low list → in_order low (modules_in files list) ≡ true
  code_in_order [] low ordered = refl
  code_in_order (mapped ∷ list) low (from, some, rest) =
      by (mapped_module files mapped) refl (λ l h. code_in_order list l h)
    where
      by : (m : Option FileModule) → mapped_module files mapped ≡ m → ((l : ℕ) → AreMappedInOrder l list → in_order l (modules_in files list) ≡ true) → in_order low (cons_option m (modules_in files list)) ≡ true
      by None e others = others low (lower list low mapped.end (omega (arith, from, some)) rest)
      by (Some m) e others =
          let (starts, ends) = spans files mapped m e in
          let first : nat_le low m.start ≡ true = le-leb low m.start (omega (arith, from, starts)) in
          let span : nat_le m.start m.end ≡ true = le-leb m.start m.end (omega (arith, some, starts, ends)) in
          let after : in_order m.end (modules_in files list) ≡ true = others m.end (subst (λ (l : ℕ). AreMappedInOrder l list) (sym ends) rest) in
          rw (first, span) after

  pub modules_sorted : (list : List MappedCode) (ms : List (LoadedModule (EndianSlice RunTimeEndian))) → AreMappedInOrder 0 list → map loaded_module_view ms ≡ modules_in files list → are_sorted 0 ms ≡ true
  modules_sorted list ms ordered are = same_order 0 ms ∙ (ap (in_order 0) are ∙ code_in_order list 0 ordered)

-- ---- the mapping of an address

-- in a list in order none before one that has the address ends behind it, and none behind it begins before
starts_from : (list : List MappedCode) (low a : ℕ) → AreMappedInOrder low list → a < low → mapped_at list a ≡ None
starts_from [] low a ordered less = refl
starts_from (mapped ∷ list) low a (from, some, rest) less =
    let before : nat_le mapped.start a ≡ false = lt-leb mapped.start a (omega (arith, from, less)) in
    rw before (starts_from list mapped.end a rest (omega (arith, from, some, less)))

-- the ends of a list in order rise
pub ends_rise : (list : List MappedCode) (low : ℕ) (i j : ℕ) (d : MappedCode) → AreMappedInOrder low list → i ≤ j → j < length list → (get_or list i d).end ≤ (get_or list j d).end
ends_rise [] low i j d ordered le inside = absurd (omega arith)
ends_rise (mapped ∷ list) low zero zero d ordered le inside = omega arith
ends_rise (mapped ∷ list) low zero (suc j) d (from, some, rest) le inside = above list mapped.end j d rest (omega (arith, inside))
  where
    above : (list : List MappedCode) (low j : ℕ) (d : MappedCode) → AreMappedInOrder low list → j < length list → low ≤ (get_or list j d).end
    above [] low j d ordered inside = absurd (omega arith)
    above (mapped ∷ list) low zero d (from, some, rest) inside = omega (arith, from, some)
    above (mapped ∷ list) low (suc j) d (from, some, rest) inside = let more = above list mapped.end j d rest (omega (arith, inside)) in omega (arith, from, some, more)
ends_rise (mapped ∷ list) low (suc i) zero d ordered le inside = absurd (omega (arith, le))
ends_rise (mapped ∷ list) low (suc i) (suc j) d (from, some, rest) le inside = ends_rise list mapped.end i j d rest (omega (arith, le)) (omega (arith, inside))

module _ (a : ℕ) where
  -- all end at or before the address
  pub none_ends_behind : (list : List MappedCode) → ((j : ℕ) (d : MappedCode) → j < length list → (get_or list j d).end ≤ a) → mapped_at list a ≡ None
  none_ends_behind [] ended = refl
  none_ends_behind (mapped ∷ list) ended =
      let here : nat_lt a mapped.end ≡ false = le-ltb a mapped.end (ended 0 mapped (omega arith)) in
      let not_here : has_byte_at mapped a ≡ false = ap (λ (b : Bool). nat_le mapped.start a && b) here ∙ false_behind (nat_le mapped.start a) in
      rw not_here (none_ends_behind list (λ j d inside. ended (suc j) d (omega (arith, inside))))
    where
      false_behind : (b : Bool) → (b && false) ≡ false
      false_behind true = refl
      false_behind false = refl

  -- the first k do, and the next one doesn't
  pub next_is : (list : List MappedCode) (low k : ℕ) (x : MappedCode) → AreMappedInOrder low list → k < length list → x ≡ get_or list k x → ((j : ℕ) (d : MappedCode) → j < k → (get_or list j d).end ≤ a) → a < x.end
      → mapped_at list a ≡ cond (nat_le x.start a) (Some x) None
  next_is [] low k x ordered inside there ended open_end = absurd (omega arith)
  next_is (mapped ∷ list) low zero x (from, some, rest) inside there ended open_end =
      let same : mapped ≡ x = sym there in
      subst (λ (m : MappedCode). mapped_at (m ∷ list) a ≡ cond (nat_le x.start a) (Some x) None) (sym same) (by (nat_le x.start a) refl)
    where
      later : nat_lt a x.end ≡ true
      later = lt-ltb a x.end open_end

      by : (b : Bool) → nat_le x.start a ≡ b → mapped_at (x ∷ list) a ≡ cond b (Some x) None
      by true e = rw (e, later) refl
      by false e = rw e (starts_from list mapped.end a rest (let here = open_end in let at : mapped.end ≡ x.end = ap (λ (m : MappedCode). m.end) (sym there) in omega (arith, here, at)))
  next_is (mapped ∷ list) low (suc k) x (from, some, rest) inside there ended open_end =
      let here : nat_lt a mapped.end ≡ false = le-ltb a mapped.end (ended 0 mapped (omega arith)) in
      let not_here : has_byte_at mapped a ≡ false = ap (λ (b : Bool). nat_le mapped.start a && b) here ∙ false_behind (nat_le mapped.start a) in
      rw not_here (next_is list mapped.end k x rest (omega (arith, inside)) there (λ j d less. ended (suc j) d (omega (arith, less))) open_end)
    where
      false_behind : (b : Bool) → (b && false) ≡ false
      false_behind true = refl
      false_behind false = refl
