-- A core file of which parts are known: what is printed of it is what is printed of the whole file.
use Rattle.std.proofs.Common.{◌≡◌, ◌∙◌, ◌==◌, ◌&&◌, ◌||◌, ◌⊎◌, ℕ, Bool, true, false, not, List, [], ◌∷◌, ◌++◌, map, cond, Option, Some, None, Result, Ok, Err, IfOk, IfSome, refl, sym, ap, ap₂, subst, inl, inr, take, arith, unwrap_or}
use Rattle.std.specs.Prelude.{if◌then◌else◌}
use borrow.Author.Tests.{eqb-true}
use Rattle.std.proofs.lemmas.Bool.Decides.{nat_tests}
use Rattle.cfi_mapped.specs.FileBuilds.{id_of}
use Rattle.std.specs.List.{find, fold}
use Rattle.std.specs.List.Sorted.{IsNonDecreasingBy}
use Rattle.std.specs.Option.{is_none, is_some, option_and_then, option_map}
use Rattle.std.specs.Str.{bytes_eq}
use Rattle.cfi_read_core.specs.ByteOrder.{is_big}
use Rattle.cfi_read_core.specs.ReadFunctions.{Position}
use Rattle.cfi_read_core.specs.SliceReaders.{slice_over, slice_position}
use Rattle.cfi_elf.specs.Options.{or_else}
use Rattle.cfi_elf.specs.declared.program_header.ProgramHeader.{ProgramHeader}
use Rattle.cfi_expression.specs.Windows.{number_in}
use Rattle.cfi_expression.proofs.LesserFrames.{Extends}
use Rattle.cfi_step.specs.declared.module.LoadedModule.{LoadedModule}
use Rattle.cfi_step.specs.declared.walk.StackFrame.{StackFrame}
use Rattle.cfi_step.specs.declared.walk.Walk.{Walk}
use Rattle.cfi_step.specs.declared.step.Caller.{Caller}
use Rattle.cfi_step.specs.declared.walk.End.{End}
use Rattle.cfi_step.specs.Walks.{State}
use Rattle.cfi_step.proofs.LesserWalks.{IsAll, IsLess, steps_more, walk_by_more}
use Rattle.cfi_mapped.specs.declared.mappings.MappedCode.{MappedCode}
use Rattle.cfi_processes.specs.declared.registers.SampleMachine.{SampleMachine}
use Rattle.cfi_processes.specs.declared.sample_stack.NoFrames.{NoFrames}
use Rattle.cfi_processes.specs.KnownFiles.{KnownFile}
use Rattle.cfi_mapped.specs.Mappings.{mapped_over}
use Rattle.cfi_mapped.specs.OpenedFiles.{Opened}
use Rattle.cfi_processes.specs.Registers.{pc_number}
use Rattle.cfi_processes.specs.Registers.{machine_abi}
use Rattle.cfi_mapped.specs.WantedFiles.{with_file}
use Rattle.cfi_processes.specs.SampleStacks.{WalkRoom}
use Rattle.cfi_mapped.specs.Wanted.{Wanted}
use Rattle.cfi_cores.specs.Builds.{build_of, mapped_image}
use Rattle.cfi_cores.specs.Builds.{mapped_start}
use Rattle.cfi_cores.specs.CoreFiles.{Core}
use Rattle.cfi_cores.specs.PartialCores.{bytes_if, head_in, is_head, segment_at, with_all}
use Rattle.cfi_cores.specs.CoreSegments.{CoreSegment, bytes_at}
use Rattle.cfi_cores.specs.CoreThreads.{CoreThread, thread_register}
use Rattle.cfi_cores.specs.MappedFiles.{CoreMapping}
use Rattle.cfi_cores.specs.Vdso.{vdso_name}
use Rattle.cfi_elf.specs.Images.{Image, IsImageOf, image_view}
use Rattle.cfi_text.specs.declared.reading.InputError.{InputError}
use Rattle.cfi_object.specs.FileParts.{AreOfInput}
use Rattle.cfi_text.specs.InputRefusals.{input_refusal}
use Rattle.cfi_text.specs.Lines.{Line}
use Rattle.cfi_text.specs.WriterOutput.{IsBeginning, Prints, PrintsSome, Writes}
use Rattle.cfi_mapped.specs.FileReads.{AreOpened}
use Rattle.cfi_mapped.specs.Wanted.{FilePlace}
use Rattle.cfi_cores.specs.declared.partial_cores.PartialCore.{PartialCore}
use Rattle.cfi_cores.specs.declared.error.CoreError.{CoreError}
use Rattle.cfi_cores.specs.CoreFiles.{core_view}
use Rattle.cfi_cores.specs.PartialCores.{IsPartial}
use Rattle.cfi_cores.specs.StackWindows.{IsStackOf}
use Rattle.cfi_cores.specs.CoreSegments.{number_among}
use Rattle.cfi_core_stacks.specs.declared.listing.ThreadListing.{ThreadListing}
use Rattle.cfi_core_stacks.specs.CoreCode.{AreOpenedFor, and_file, core_code_file, core_code_files, core_mapped_code, core_mappings, is_code, with_vdso_file}
use Rattle.cfi_core_stacks.specs.CoreOutputs.{AreThreadsPrinted, IsCoreOfOpened, IsCoreOwed, IsOfCore, IsOfLacking, IsOfRead, PrintsCoreOwed, PrintsFound, WritesFound, core_ended, core_memory, no_thread}
use Rattle.cfi_core_stacks.specs.AskedThreads.{asked_threads, lacks_thread}
use Rattle.cfi_frames.specs.Outputs.{no_memory}
use Rattle.cfi_core_stacks.specs.KnownCores.{IsKnownBy, IsKnownOf, IsMemoryOf, IsPartOf, IsStackIn, end_lacks, memory_by, walk_lacks}
use Rattle.cfi_core_stacks.specs.declared.known_core.KnownCore.{KnownCore}
use Rattle.cfi_core_stacks.specs.declared.known_core.StackParts.{StackParts}
use Rattle.cfi_core_stacks.specs.declared.known_memory.KnownMemory.{KnownMemory}
use Rattle.cfi_core_stacks.specs.declared.known_memory.KnownMemory.TheVariants.{Parts, Whole}
use Rattle.cfi_cores.specs.declared.memory.CoreMemory.{CoreMemory as MemoryOfCode}
use Rattle.cfi_cores.specs.CoreMemories.{memory_number, memory_view}
use Rattle.cfi_frames.specs.Sequences.{AreOfAll}
use Rattle.cfi_processes.specs.ProfileFiles.{AreProfileFilesOf}
use Rattle.cfi_elf.specs.declared.image.Image.{Image as ImageOfCode}
use Rattle.std.specs.Io.KnownBytes.{Appends}
use Rattle.std.specs.Result.{IsErr}
use Rattle.cfi_core_stacks.specs.CoreWindows.{AreWindows}
use Rattle.cfi_core_stacks.specs.ThreadOutputs.{IsThreadText}
use Rattle.cfi_core_stacks.specs.NullSteps.{IsNullStep}
use Rattle.cfi_core_stacks.proofs.NullLemmas.{nulls_more}
use Rattle.cfi_core_stacks.proofs.SignalLemmas.{signals_more}
use Rattle.cfi_core_stacks.specs.ThreadWalks.{IsThreadWalked}
use Rattle.cfi_core_stacks.specs.ThreadFrames.{IsThreadStep, IsUnwound, IsUnwoundFrom, thread_registers}

-- ---- segments that have their bytes only where the first byte of a file is mapped

module _ (bytes : List ℕ) (mapped : List CoreMapping) where
  all_same : (m : CoreMapping) (hs : List ProgramHeader) → is_code (map (head_in bytes mapped) hs) m ≡ is_code (map (segment_at bytes) hs) m
  all_same m [] = refl
  all_same m (h ∷ hs) = ap (λ (b : Bool). ((segment_at bytes h).is_executable || not (h.p_vaddr == m.start)) && b) (all_same m hs)

  same_bytes : (a : ℕ) → is_head mapped a ≡ true → (hs : List ProgramHeader) → bytes_at (map (head_in bytes mapped) hs) a ≡ bytes_at (map (segment_at bytes) hs) a
  same_bytes a head [] = refl
  same_bytes a head (h ∷ hs) = by (h.p_vaddr == a) refl (same_bytes a head hs)
    where
      by : (t : Bool) → (h.p_vaddr == a) ≡ t → bytes_at (map (head_in bytes mapped) hs) a ≡ bytes_at (map (segment_at bytes) hs) a
          → option_map (λ s. s.bytes) (cond t (Some (head_in bytes mapped h)) (find (λ s. s.start == a) (map (head_in bytes mapped) hs)))
          ≡ option_map (λ s. s.bytes) (cond t (Some (segment_at bytes h)) (find (λ s. s.start == a) (map (segment_at bytes) hs)))
      by true is rest =
          let here : is_head mapped h.p_vaddr ≡ true = ap (is_head mapped) (eqb-true h.p_vaddr a is) ∙ head in
          ap (λ (b : Bool). Some (bytes_if bytes b h)) here
      by false is rest = rest

head_if : (b rest : Bool) → b ≡ true → (b || rest) ≡ true
head_if b rest is = ap (λ (x : Bool). x || rest) is

rest_if : (b rest : Bool) → rest ≡ true → (b || rest) ≡ true
rest_if true rest is = refl
rest_if false rest is = is

eqb_self : (a : ℕ) → (a == a) ≡ true
eqb_self a = grind (arith, nat_tests)

-- where a file's first byte is mapped is a head
head_of : (mapped : List CoreMapping) (name : List ℕ) (a : ℕ) → mapped_start mapped name ≡ Some a → is_head mapped a ≡ true
head_of [] name a is = absurd (cc)
head_of (m ∷ mapped) name a is = by (m.offset == 0) (bytes_eq m.name name) refl (head_of mapped name a) is
  where
    by : (zeroth named : Bool) → (m.offset == 0) ≡ zeroth → (mapped_start mapped name ≡ Some a → is_head mapped a ≡ true) → option_map (λ m. m.start) (cond (zeroth && named) (Some m) (find (λ m. (m.offset == 0) && bytes_eq m.name name) mapped)) ≡ Some a
        → ((m.offset == 0) && (m.start == a)) || is_head mapped a ≡ true
    by true true first rest is =
        let same : m.start ≡ a = cc in
        head_if ((m.offset == 0) && (m.start == a)) (is_head mapped a) (ap₂ (λ (x y : Bool). x && y) first (ap (λ (n : ℕ). n == a) same ∙ eqb_self a))
    by true false first rest is = rest_if ((m.offset == 0) && (m.start == a)) (is_head mapped a) (rest is)
    by false named first rest is = rest_if ((m.offset == 0) && (m.start == a)) (is_head mapped a) (rest is)

module _ (bytes : List ℕ) (core : Core) (places : List ProgramHeader) (heads : core.segments ≡ map (head_in bytes core.mapped) places) where
  abbrev whole : Core
  whole = with_all bytes core places

  same_code : (m : CoreMapping) → is_code core.segments m ≡ is_code whole.segments m
  same_code m = ap (λ (segments : List CoreSegment). is_code segments m) heads ∙ all_same bytes core.mapped m places

  same_image : (name : List ℕ) → mapped_image core.segments core.mapped name ≡ mapped_image whole.segments core.mapped name
  same_image name = by (mapped_start core.mapped name) refl
    where
      by : (o : Option ℕ) → mapped_start core.mapped name ≡ o → option_and_then (bytes_at core.segments) o ≡ option_and_then (bytes_at whole.segments) o
      by (Some a) is = ap (λ (segments : List CoreSegment). bytes_at segments a) heads ∙ same_bytes bytes core.mapped a (head_of core.mapped name a is) places
      by None is = refl

  same_build : (name : List ℕ) → build_of core.segments core.mapped name ≡ build_of whole.segments core.mapped name
  same_build name = ap (option_and_then id_of) (same_image name)

  same_file : (m : CoreMapping) → core_code_file core.segments core.mapped m ≡ core_code_file whole.segments core.mapped m
  same_file m =
      ap₂ (λ (b : Bool) (id : Option (List ℕ)). if b && not (bytes_eq m.name vdso_name) then Some (record { name = m.name; build_id = id; process = None }) else None) (same_code m) (same_build m.name)

  pub same_files : core_code_files core.segments core.mapped ≡ core_code_files whole.segments core.mapped
  same_files = ap (λ (file : CoreMapping → Option Wanted). fold (λ files m. with_file files (file m)) [] core.mapped) (λ i m. same_file m i)

  pub same_vdso : (opened : List Opened) → with_vdso_file core opened ≡ with_vdso_file whole opened
  same_vdso opened =
      ap₂ (λ (image : Option (List ℕ)) (id : Option (List ℕ)). and_file opened (option_map (λ image. record { name = vdso_name; build_id = id; bytes = Some image; debug = None; process = None; map_name = None }) image))
      (same_image vdso_name) (same_build vdso_name)

  pub same_mappings : (files : List KnownFile) → core_mappings files core.segments core.mapped ≡ core_mappings files whole.segments core.mapped
  same_mappings files =
      ap (λ (code : CoreMapping → Bool). fold (λ list m. if code m then mapped_over (core_mapped_code files m) list else list) [] core.mapped) (λ i m. same_code m i)

-- ---- a walk over a part of the stack that lacks nothing

module _ {R T : Type 0} (position : R → Position) (number : T → ℕ) (rule_limit stack_limit : Option ℕ) (copies_free : Bool) (modules : List (LoadedModule R)) (machine : SampleMachine) (m m' : ℕ → ℕ → Option ℕ)
    (more : Extends m m') (thread : CoreThread) (old : WalkRoom) (result : Result Walk NoFrames) (new : WalkRoom) (whole : walk_lacks machine result ≡ false) where
  -- the same frames; of the last one more registers may be known
  pub record Unwound : Type 0 where
    pub room : WalkRoom
    pub unwound : IsUnwound position number rule_limit stack_limit copies_free modules machine m' thread old result room
    pub frames : room.frames ≡ new.frames

  record UnwoundFrom (pc : Option ℕ) : Type 0 where
    room : WalkRoom
    unwound : IsUnwoundFrom position number rule_limit stack_limit copies_free modules machine m' thread old result room pc
    frames : room.frames ≡ new.frames

  -- by call frames alone
  abbrev plain : State → Result Caller End → List (Option ℕ) → Type 0
  plain = IsLess position number more 8 (machine_abi machine) rule_limit stack_limit copies_free modules

  abbrev plain' : State → Result Caller End → List (Option ℕ) → Type 0
  plain' = IsAll position number more 8 (machine_abi machine) rule_limit stack_limit copies_free modules

  by_pc : (pc : Option ℕ) → IsUnwoundFrom position number rule_limit stack_limit copies_free modules machine m thread old result new pc → UnwoundFrom pc
  by_pc (Some pc) (walk, is, (walks, written)) =
      let w = walk_by_more (end_lacks machine) (IsThreadStep position number rule_limit stack_limit copies_free modules machine m) (IsThreadStep position number rule_limit stack_limit copies_free modules machine m')
      (signals_more more machine (IsNullStep machine m plain) (IsNullStep machine m' plain') (nulls_more more machine plain plain' (steps_more position number more 8 (machine_abi machine) rule_limit stack_limit copies_free modules)))
      (record { at = record { pc = pc; is_interrupted = true; callee_cfa = None }; registers = thread_registers machine thread; caller = old.caller })
      (take walk.count new.frames) walk.end new.registers new.caller (ap (walk_lacks machine) (sym is) ∙ whole) walks in
      record {
        room = record { registers = w.registers; caller = w.caller; frames = new.frames };
        unwound = (walk, is, (w.walked, written));
        frames = refl;
      }
  by_pc None is = record { room = new; unwound = is; frames = refl }

  pub unwound_more : IsUnwound position number rule_limit stack_limit copies_free modules machine m thread old result new → Unwound
  unwound_more is =
      let u = by_pc (thread_register machine thread (pc_number machine)) is in
      record { room = u.room; unwound = u.unwound; frames = u.frames }

-- ---- results that may hold something

pub some_is : {A : Type 0} (o : Option A) (x : A) (P : A → Type 0) → o ≡ Some x → IfSome o P → P x
some_is (Some y) x P is has = let same : y ≡ x = cc in subst P same has
some_is None x P is has = absurd (cc)

pub none_is : {A : Type 0} (o : Option A) (b : Bool) → is_some o ≡ not b → is_none o ≡ true → b ≡ true
none_is (Some x) b told none = absurd (cc)
none_is None true told none = refl
none_is None false told none = absurd (cc)

pub each_ok : {A E : Type 0} (r : Result A E) (P Q : A → Type 0) → ((x : A) → P x → Q x) → IfOk r P → IfOk r Q
each_ok (Ok x) P Q each has = each x has
each_ok (Err e) P Q each has = tt

-- numbers of the segments are those of the memory, whatever else it has
in_memory : (segments lent : List CoreSegment) (stack : CoreSegment) → IsStackOf segments stack → IsStackIn (memory_by segments lent) stack
in_memory segments lent stack of a size n is = by (number_among segments a size) (of a size n is)
  where
    by : (o : Option ℕ) → o ≡ Some n → or_else o (number_among lent a size) ≡ Some n
    by (Some k) is = is
    by None is = absurd (cc)

-- ---- a thread whose stack is in a part of the memory

module _ (machine : SampleMachine) (files : List KnownFile) (list : List MappedCode) (thread : CoreThread) where
  walked_in_stack : (stack : CoreSegment) (view : Position) → view ≡ slice_over stack.bytes false → (memory : ℕ → ℕ → Option ℕ) → IsStackIn memory stack → (result : Result Walk NoFrames) (frames : List StackFrame)
      → IsThreadWalked machine files list (λ a size. number_in view stack.start a size) thread result frames → walk_lacks machine result ≡ false → IsThreadWalked machine files list memory thread result frames
  walked_in_stack stack view same memory within result frames (modules, old, new, are, room, registers, unwound, left, has) whole =
      let u = unwound_more (slice_position is_big) (λ n. n) (Some 192) (Some 4) true modules machine (λ a size. number_in view stack.start a size) memory
      (record { numbers = λ a size n is. within a size n (subst (λ (v : Position). number_in v stack.start a size ≡ Some n) same is) }) thread old result new whole unwound in
      (modules, old, u.room, are, room, registers, u.unwound, u.frames ∙ left, has)

  pub walked_by_part : (parts : StackParts) (all : ℕ → ℕ → Option ℕ) → IsPartOf parts all → (stack : CoreSegment) (view : Position) → view ≡ slice_over stack.bytes false
      → ((bytes : List ℕ) → IsImageOf (image_view parts.image) bytes → IsStackOf (map (segment_at bytes) parts.places.now) stack) → (result : Result Walk NoFrames) (frames : List StackFrame)
      → IsThreadWalked machine files list (λ a size. number_in view stack.start a size) thread result frames → walk_lacks machine result ≡ false → IsThreadWalked machine files list all thread result frames
  walked_by_part parts all (bytes, lent, of, same) stack view seen there result frames walked whole =
      subst (λ (all : ℕ → ℕ → Option ℕ). IsThreadWalked machine files list all thread result frames) same
      (walked_in_stack stack view seen (memory_by (map (segment_at bytes) parts.places.now) lent) (in_memory (map (segment_at bytes) parts.places.now) lent stack (there bytes of)) result frames walked whole)

-- ---- what is printed, or lacking

module _ {E : Type 0} (Is : Line → Type 0) (old new : Option (List ℕ)) where
  -- a beginning was written
  pub begun_some : (r : Result ℕ E) (line : Line) → IsErr r → ((front : List ℕ) × Appends old new front × IsBeginning front line.text) → Is line → PrintsSome Is old new r
  begun_some (Ok n) line err begun is = cc
  begun_some (Err e) line err begun is = (line, (begun, tt), is)

  pub begun_found : (may_lack : Bool) (r : Result (Option ℕ) E) (line : Line) → IsErr r → ((front : List ℕ) × Appends old new front × IsBeginning front line.text) → Is line → PrintsFound Is old new may_lack r
  begun_found may_lack (Ok found) line err begun is = cc
  begun_found may_lack (Err e) line err begun is = (line, (begun, tt), is)

  pub found_more : (Is' : Line → Type 0) → ((line : Line) → Is line → Is' line) → (may_lack : Bool) (r : Result (Option ℕ) E) → PrintsFound Is old new may_lack r → PrintsFound Is' old new may_lack r
  found_more Is' each may_lack (Ok (Some s)) (line, prints, is) = (line, prints, each line is)
  found_more Is' each may_lack (Ok None) lacks = lacks
  found_more Is' each may_lack (Err e) (line, prints, is) = (line, prints, each line is)

module _ (E : Type 0) (Is : Line → Type 0) (old new : Option (List ℕ)) where
  pub found_some : (may_lack : Bool) (o : Option ℕ) (n : ℕ) → o ≡ Some n → PrintsFound {E = E} Is old new may_lack (Ok o) → PrintsSome {E = E} Is old new (Ok n)
  found_some may_lack (Some s) n is prints =
      let same : s ≡ n = cc in
      subst (λ (n : ℕ). PrintsSome {E = E} Is old new (Ok n)) same prints
  found_some may_lack None n is lacks = absurd (cc)

  pub all_found : (o : Option ℕ) (n : ℕ) → n ≡ unwrap_or o 0 → PrintsFound {E = E} Is old new false (Ok o) → PrintsSome {E = E} Is old new (Ok n)
  all_found (Some s) n is prints = subst (λ (n : ℕ). PrintsSome {E = E} Is old new (Ok n)) (sym is) prints
  all_found None n is lacks = absurd (cc)

module _ {E : Type 0} (Is : List ℕ → Type 0) (old new : Option (List ℕ)) (may_lack : Bool) where
  pub begun_text : (r : Result Bool E) (text : List ℕ) → IsErr r → ((front : List ℕ) × Appends old new front × IsBeginning front text) → Is text → WritesFound Is old new may_lack r
  begun_text (Ok found) text err begun is = cc
  begun_text (Err e) text err begun is = (text, begun, is)

module _ (E : Type 0) (Is : List ℕ → Type 0) (old new : Option (List ℕ)) (may_lack : Bool) where
  pub text_found : (found : Bool) → found ≡ true → WritesFound {E = E} Is old new may_lack (Ok found) → (text : List ℕ) × Appends old new text × Is text
  text_found true is written = written
  text_found false is lacks = absurd (cc)

  pub text_lacks : (found : Bool) → found ≡ false → WritesFound {E = E} Is old new may_lack (Ok found) → may_lack ≡ true
  text_lacks true is written = absurd (cc)
  text_lacks false is lacks = lacks

-- by what is mapped as code
module _ (listing : ThreadListing) (files : List KnownFile) (memory : ℕ → ℕ → Option ℕ) (core : Core) (printed : Line) where
  abbrev ThreadsBy : List MappedCode → Type 0
  ThreadsBy list =
      ((text : List ℕ) × AreOfAll (IsThreadText listing core.machine files list memory core.name) (asked_threads listing core.threads) text × (printed ≡ core_ended listing.format text core.error))
      ⊎ ((n : ℕ) × (text : List ℕ) × AreOfAll (IsThreadText listing core.machine files list memory core.name) (asked_threads listing (take n core.threads)) text
      × (printed ≡ record { text = text ++ (no_memory listing.format).text; status = 1 }))

-- ---- of a core that is known, and its memory

pub memory_is : (known : KnownMemory) (memory : MemoryOfCode) (all : ℕ → ℕ → Option ℕ) → known ≡ Whole memory → IsMemoryOf known all → memory_number (memory_view memory) ≡ all
memory_is (Whole m) memory all is same =
    let one : memory ≡ m = cc in
    ap (λ (m : MemoryOfCode). memory_number (memory_view m)) one ∙ same
memory_is (Parts p) memory all is same = absurd (cc)

pub part_memory : (parts : Option StackParts) (p : StackParts) (core whole : Core) (lent : List CoreSegment) → parts ≡ Some p → IsKnownBy parts core whole → IsPartOf p (core_memory whole lent)
part_memory (Some q) p core whole lent is (bytes, of, heads, same) =
    let one : q ≡ p = cc in
    subst (λ (p : StackParts). IsPartOf p (core_memory whole lent)) one (bytes, lent, of, ap (λ (c : Core). core_memory c lent) same)
part_memory None p core whole lent is known = absurd (cc)

module _ (listing : ThreadListing) {Handle : Type 0} (may_open : FilePlace → Option Handle → Type 0) (remaining : Handle → Option (List ℕ)) where
  -- by files that were opened
  of_opened : (core : Core) (all : List Opened) (line : Line) → AreOpenedFor may_open remaining core all → lacks_thread listing core ≡ false → IsCoreOfOpened listing core all line → IsOfCore listing may_open remaining core line
  of_opened core all line (opened, are, same) lacks of =
      subst (λ (b : Bool). IsOfLacking listing may_open remaining b core line) (sym lacks)
      (opened, are, subst (λ (files : List Opened). IsCoreOfOpened listing core files line) same of)

  module _ (files : List KnownFile) (all : List Opened) (named : AreProfileFilesOf (not listing.raw) all files) (windows : List CoreSegment) (line : Line) where
    of_whole : (core : Core) → AreOpenedFor may_open remaining core all → lacks_thread listing core ≡ false → AreWindows all core.mapped windows
        → AreThreadsPrinted listing files (core_memory core windows) core line → IsOfCore listing may_open remaining core line
    of_whole core are lacks lent is = of_opened core all line are lacks (files, named, (windows, lent, is))

    -- the threads of a core that is known are those of the whole one
    pub of_known : (parts : Option StackParts) (core whole : Core) → IsKnownBy parts core whole → AreOpenedFor may_open remaining core all → lacks_thread listing core ≡ false → AreWindows all core.mapped windows
        → AreThreadsPrinted listing files (core_memory whole windows) core line → IsOfCore listing may_open remaining whole line
    of_known None core whole same are lacks lent =
        subst (λ (whole : Core). AreThreadsPrinted listing files (core_memory whole windows) core line → IsOfCore listing may_open remaining whole line) same (of_whole core are lacks lent)
    of_known (Some parts) core whole (bytes, of, heads, same) (opened, are, vdso) lacks lent =
        let places = parts.places.now in
        let opens : AreOpenedFor may_open remaining (with_all bytes core places) all = (
          opened,
          subst (λ (wanted : List Wanted). AreOpened may_open remaining wanted opened) (same_files bytes core places heads) are,
          vdso ∙ same_vdso bytes core places heads opened,
        ) in
        subst (λ (whole : Core). AreThreadsPrinted listing files (core_memory whole windows) core line → IsOfCore listing may_open remaining whole line) same
        (λ is. of_whole (with_all bytes core places) opens lacks lent
        (subst (ThreadsBy listing files (core_memory (with_all bytes core places) windows) core line) (same_mappings bytes core places heads files) is))

  -- of an input that isn't read
  pub unread : {E : Type 0} (bytes : List ℕ) (why : InputError) (old new : Option (List ℕ)) (result : Result ℕ E) → Prints (input_refusal listing.format why) old new result → PrintsSome (λ line. IsCoreOwed listing may_open remaining bytes line) old new result
  unread bytes why old new result prints = (input_refusal listing.format why, prints, inr (why, refl))

  -- or memory was refused
  pub refused_found : {E : Type 0} (whole : Core) (old new : Option (List ℕ)) (may_lack : Bool) (r : Result (Option ℕ) E) → PrintsFound (λ line. line ≡ no_memory listing.format) old new may_lack r
      → PrintsFound (λ line. IsOfCore listing may_open remaining whole line ⊎ (line ≡ no_memory listing.format)) old new may_lack r
  refused_found whole old new may_lack r prints =
      found_more (λ line. line ≡ no_memory listing.format) old new (λ line. IsOfCore listing may_open remaining whole line ⊎ (line ≡ no_memory listing.format)) (λ line is. inr is) may_lack r prints

  -- where no thread is asked for that is there
  pub none_asked : (parts : Option StackParts) (core whole : Core) → IsKnownBy parts core whole → lacks_thread listing core ≡ true → IsOfCore listing may_open remaining whole (no_thread listing.format)
  none_asked None core whole same lacks =
      subst (λ (b : Bool). IsOfLacking listing may_open remaining b whole (no_thread listing.format)) (sym (ap (lacks_thread listing) (sym same) ∙ lacks)) refl
  none_asked (Some parts) core whole (bytes, of, heads, same) lacks =
      subst (λ (b : Bool). IsOfLacking listing may_open remaining b whole (no_thread listing.format)) (sym (ap (lacks_thread listing) (sym same) ∙ lacks)) refl

  -- what is printed of parts of a file is what is printed of the whole file
  module _ (known : Option (List ℕ)) (image : ImageOfCode) (partial : PartialCore) (input : AreOfInput known (image_view image)) (each : (bytes : List ℕ) → IsImageOf (image_view image) bytes → IsPartial bytes partial) where
    owed : (bytes : List ℕ) → IsPartial bytes partial → (line : Line) → (IsOfCore listing may_open remaining (with_all bytes (core_view partial.core) partial.places.items) line ⊎ (line ≡ no_memory listing.format))
        → IsCoreOwed listing may_open remaining bytes line
    owed bytes p line (inl of) =
        inl (inl (subst (λ (r : Result Core CoreError). IsOfRead listing may_open remaining r line) (sym p.reads) (with_all bytes (core_view partial.core) partial.places.items, p.sorted, of)))
    owed bytes p line (inr none) = inl (inr none)

    pub gathered : {E : Type 0} (F : Type 0) (core : KnownCore) (places : List ProgramHeader) (begin text : List ℕ) (status : ℕ) (old new : Option (List ℕ)) (result : Result ℕ E) → places ≡ partial.places.items → begin ≡ []
        → ((bytes : List ℕ) → IsImageOf (image_view image) bytes → (core_view partial.core).segments ≡ map (head_in bytes (core_view partial.core).mapped) places → IsKnownOf core (with_all bytes (core_view partial.core) places))
        → ((whole : Core) → IsKnownOf core whole → PrintsSome {E = F} (λ line. IsOfCore listing may_open remaining whole line ⊎ (line ≡ no_memory listing.format)) (Some begin) (Some text) (Ok status))
        → Writes old new result text → IfOk result (λ s. s ≡ status) → PrintsCoreOwed listing may_open remaining known old new result
    gathered F core places begin text status old new result same_places none tells printed written answers =
        let (bytes, left, is) = input in
        let p = each bytes is in
        let heads = subst (λ (hs : List ProgramHeader). (core_view partial.core).segments ≡ map (head_in bytes (core_view partial.core).mapped) hs) (sym same_places) p.heads in
        let knows = subst (λ (hs : List ProgramHeader). IsKnownOf core (with_all bytes (core_view partial.core) hs)) same_places (tells bytes is heads) in
        let (line, (appended, same), of) = printed (with_all bytes (core_view partial.core) partial.places.items) knows in
        let all : text ≡ line.text = appended ∙ ap (λ (begin : List ℕ). begin ++ line.text) none in (
          bytes,
          left,
          (line, (subst (Writes old new result) all written, each_ok result (λ s. s ≡ status) (λ s. s ≡ line.status) (λ s is. is ∙ same) answers), owed bytes p line of),
        )

pub places_in_order : (known : Option (List ℕ)) (image : Image) (partial : PartialCore) → AreOfInput known image → ((bytes : List ℕ) → IsImageOf image bytes → IsPartial bytes partial) → IsNonDecreasingBy (λ (h : ProgramHeader). h.p_vaddr) partial.places.items
places_in_order known image partial (bytes, left, is) each = (each bytes is).in_order

-- memory is refused for an input of which parts were read
pub refused_of_parts : {E : Type 0} (listing : ThreadListing) {Handle : Type 0} (may_open : FilePlace → Option Handle → Type 0) (remaining : Handle → Option (List ℕ)) (image : Image) (known old new : Option (List ℕ)) (result : Result ℕ E)
    → AreOfInput known image → Prints (no_memory listing.format) old new result → PrintsCoreOwed listing may_open remaining known old new result
refused_of_parts listing may_open remaining image known old new result (bytes, left, is) prints = (bytes, left, (no_memory listing.format, prints, inl (inr refl)))
