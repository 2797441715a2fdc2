-- All bytes of a file are parts of it, and enough for whatever is needed.
use Rattle.std.proofs.Common.{◌≡◌, ◌+◌, ◌-◌, Bool, true, List, ℕ, length, Option, Result, Ok, Err, IfOk, refl, sym, subst, arith}
use Rattle.std.proofs.lemmas.Bool.Decides.{nat_tests}
use Rattle.std.specs.Prelude.{nat_le}
use Rattle.cfi_elf.specs.declared.error.ElfError.{ElfError}
use Rattle.cfi_elf.specs.ElfFiles.{File, elf_file, elf_file_of}
use Rattle.cfi_elf.specs.Images.{Image, IsImageOf, whole}
use Rattle.cfi_elf.proofs.FileImages.{file_found, image_kept, whole_file_read}
use Rattle.cfi_elf.proofs.Images.{in_whole, same_symbol_table}
use Rattle.cfi_elf.proofs.PltImages.{same_plt_parts}
use Rattle.cfi_object.specs.declared.file_parts.FileParts.{FileParts}
use Rattle.cfi_object.specs.declared.needed.Needed.{Needed}
use Rattle.cfi_object.specs.FileParts.{AreOfInput, IsAllOf, image_of}
use Rattle.cfi_object.specs.NeededParts.{AreEnough, HasAll, IsEnoughOf}
use Rattle.cfi_object.proofs.ReadParts.{all_taken}
use Rattle.cfi_object.proofs.SameBuilds.{same_build, same_link}
use Rattle.cfi_object.proofs.SameFrames.{same_debug, same_eh_frame}

all_needed : (needed : Needed) (bytes : List ℕ) (file : File) → IsImageOf file.image bytes → HasAll needed (in_whole bytes file)
all_needed needed bytes file of = record {
  frames = record { eh_frame = (same_eh_frame file bytes of).read; debug_frame = (same_debug file bytes of).read };
  build = record { id = λ needed. (same_build file of).read; link = λ needed. (same_link file of).read };
  symbols = λ needed. (same_symbol_table file of).read;
  plt = λ needed. (same_plt_parts file of).read;
}

pub whole_is : (bytes : List ℕ) → IsImageOf (whole bytes) bytes
whole_is bytes =
    let size : 0 + length bytes - 0 ≡ length bytes = omega arith in
    let fits : nat_le (0 + length bytes) (length bytes) ≡ true = grind (arith, nat_tests) in
    record { length_is = refl; first_is = rw (fits, size, all_taken) refl; parts_are = tt }

pub whole_enough : (needed : Needed) (bytes : List ℕ) → AreEnough needed (whole bytes)
whole_enough needed bytes = (whole_file_read (whole_is bytes), by (elf_file bytes) refl)
  where
    by : (r : Result File ElfError) → elf_file bytes ≡ r → IfOk r (HasAll needed)
    by (Ok file) is =
        let (same, kept) = file_found (whole_is bytes) file is in
        let alone : in_whole bytes file ≡ file = λ i. record file { image = sym (image_kept (whole bytes) file is) i } in
        subst (HasAll needed) alone (all_needed needed bytes file kept)
    by (Err e) is = tt

-- ---- the parts that have them

pub all_of_input : (known : Option (List ℕ)) (image : Image) → IsAllOf known image → AreOfInput known image
all_of_input known image (bytes, left, is) = (bytes, left, subst (λ (image : Image). IsImageOf image bytes) (sym is) (whole_is bytes))

pub all_enough : (known : Option (List ℕ)) (needed : Needed) (image : Image) → IsAllOf known image → IsEnoughOf known needed image
all_enough known needed image (bytes, left, is) =
    (all_of_input known image (bytes, left, is), subst (AreEnough needed) (sym is) (whole_enough needed bytes))

pub all_result : {E : Type 0} (known : Option (List ℕ)) (r : Result FileParts E) → IfOk r (λ parts. IsAllOf known (image_of parts)) → IfOk r (λ parts. AreOfInput known (image_of parts))
all_result known (Ok parts) is = all_of_input known (image_of parts) is
all_result known (Err e) is = tt

pub enough_result : {E : Type 0} (known : Option (List ℕ)) (needed : Needed) (r : Result FileParts E) → IfOk r (λ parts. IsAllOf known (image_of parts)) → IfOk r (λ parts. IsEnoughOf known needed (image_of parts))
enough_result known needed (Ok parts) is = all_enough known needed (image_of parts) is
enough_result known needed (Err e) is = tt
