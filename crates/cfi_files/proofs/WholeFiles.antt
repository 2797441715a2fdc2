-- The verdict on the parts of a file that are needed is that on the whole file.
use Rattle.std.proofs.Common.{◌≡◌, inl, ℕ, List, Option, Result, Ok, Err, IfOk, refl, sym, subst}
use Rattle.cfi_elf.specs.declared.error.ElfError.{ElfError}
use Rattle.cfi_elf.specs.ElfFiles.{File, elf_file, elf_file_of}
use Rattle.cfi_elf.specs.Images.{Image, IsImageOf, IsRead}
use Rattle.cfi_elf.proofs.FileImages.{file_found, file_refused}
use Rattle.gimli_cfi.specs.SectionSources.{GivenSection}
use Rattle.gimli_cfi.specs.declared.hdr.verdict.Verdict.{Verdict}
use Rattle.cfi_object.specs.NeededParts.{HasAll, IsEnoughOf}
use Rattle.cfi_object.specs.declared.needed.Needed.{Needed}
use Rattle.cfi_object.proofs.SameFrames.{same_eh_frame}
use Rattle.cfi_files.specs.declared.error.FileError.{FileError}
use Rattle.cfi_files.specs.Findings.{ChecksInput, IsVerdictOfFile, IsVerdictOfFrames}

checked_by : (image : Image) (bytes : List ℕ) → IsImageOf image bytes → IsRead (elf_file_of image) → (needed : Needed) (r : Result File ElfError) → elf_file_of image ≡ r → IfOk r (HasAll needed) → (verdict : Result (Option Verdict) FileError) →
    IsVerdictOfFile r verdict → IsVerdictOfFile (elf_file bytes) verdict
checked_by image bytes of read needed (Ok file) is enough verdict right =
    let (same, kept) = file_found of file is in
    subst (λ (r : Result File ElfError). IsVerdictOfFile r verdict) (sym same)
    (subst (λ (found : Result (Option GivenSection) ElfError). IsVerdictOfFrames found verdict) ((same_eh_frame file bytes kept).same enough.frames.eh_frame) right)
checked_by image bytes of read needed (Err e) is enough verdict right =
    subst (λ (r : Result File ElfError). IsVerdictOfFile r verdict) (sym (file_refused of e is read)) right

pub checked_parts : (known : Option (List ℕ)) (image : Image) (needed : Needed) (verdict : Result (Option Verdict) FileError) → IsEnoughOf known needed image → IsVerdictOfFile (elf_file_of image) verdict → ChecksInput known verdict
checked_parts known image needed verdict ((bytes, left, of), (read, enough)) is =
    inl (bytes, left, checked_by image bytes of read needed (elf_file_of image) refl enough verdict is)
