-- What lacks for a call of the code lacks for what it returns by its definition; the parts that are read for what lacks.
use Rattle.std.proofs.Common.{◌≡◌, ◌∙◌, ◌+◌, ◌≤◌, inl, inr, ℕ, suc, List, Option, Some, None, Result, Ok, Err, IfErr, IfOk, IfSome, sym, ap, subst}
use Rattle.std.proofs.Math.Numerals.{suc-eq-add-one}
use Rattle.cfi_read_core.specs.ReaderCalls.{map_ok}
use Rattle.cfi_elf.specs.declared.error.ElfError.{ElfError}
use Rattle.cfi_elf.specs.Images.{Image}
use Rattle.cfi_object.specs.declared.file_parts.FileParts.{FileParts}
use Rattle.cfi_object.specs.declared.needed.Needed.{Needed}
use Rattle.cfi_object.specs.FileParts.{IsAllOf, IsWithPart, image_of}
use Rattle.cfi_object.specs.NeededParts.{AreAsked, AreLacking, AreRead, Lacks}

pub some_then : {A : Type 0} {P Q : A → Type 0} (o : Option A) → ((x : A) → P x → Q x) → IfSome o P → IfSome o Q
some_then None next given = tt
some_then (Some x) next given = next x given

pub mapped_lacks : {A B : Type 0} (f : A → B) (r : Result A ElfError) (s : Result B ElfError) → map_ok f r ≡ s → (place : ℕ × ℕ) → Lacks r place → Lacks s place
mapped_lacks {A = A} f r s same place lacks = sym same ∙ ap (λ (r : Result A ElfError). map_ok f r) lacks

pub failed_lacks : {A B : Type 0} (r : Result A ElfError) (s : Result B ElfError) → IfErr r (λ e. s ≡ Err e) → (place : ℕ × ℕ) → Lacks r place → Lacks s place
failed_lacks {A = A} r s fails place lacks = subst (λ (r : Result A ElfError). IfErr r (λ e. s ≡ Err e)) lacks fails

-- ---- the parts that are read

pub one_more : (needed : Needed) (n : ℕ) (old new : Image) (place : ℕ × ℕ) → AreRead needed n old → AreLacking needed old place → IsWithPart place.0 place.1 old new → AreRead needed (n + 1) new
one_more needed n old new place read lacking part = subst (λ (k : ℕ). AreRead needed k new) (suc-eq-add-one n) (old, place, read, lacking, part)

pub all_asked : {E : Type 0} (known : Option (List ℕ)) (needed : Needed) (n : ℕ) (old : Image) (r : Result FileParts E) → 32 ≤ n → AreRead needed n old → IfOk r (λ parts. IsAllOf known (image_of parts)) → IfOk r (λ parts. AreAsked needed (image_of parts))
all_asked known needed n old (Ok parts) many read (bytes, left, is) = inr ((n, many, old, read), (bytes, is))
all_asked known needed n old (Err e) many read is = tt
