-- A file by its header, over plain values.
use Rattle.std.proofs.Common.{◌≡◌, ◌≤◌, ◌∙◌, ℕ, Bool, List, length, Result, Ok, Err, refl, sym, ap}
use Rattle.std.specs.Prelude.{nat_lt, if◌then◌else◌}
use Rattle.std.proofs.lemmas.Bool.{le-ltb}
use Rattle.cfi_read_core.specs.ByteOrder.{is_big}
use Rattle.cfi_elf.specs.declared.error.ElfError.{ElfError}
use Rattle.cfi_elf.specs.declared.error.ElfError.TheVariants.{HeaderCut, Relocatable}
use Rattle.cfi_elf.specs.declared.file_header.FileHeader.{FileHeader}
use Rattle.cfi_elf.specs.declared.file_header.Identification.{Identification}
use Rattle.cfi_elf.specs.ElfFiles.{File, any_file, identification, with_addresses}
use Rattle.cfi_elf.specs.Headers.{file_header, file_header_bytes}
use Rattle.cfi_elf.specs.Images.{Image}
use Rattle.cfi_elf.proofs.Chains.{ok_then}

-- a file whose sections have no addresses
pub relocatable : (file : File) → file.header.kind.e_version ≡ 1 → file.header.kind.e_type ≡ 1 → Err Relocatable ≡ with_addresses file
relocatable file version kind = rw (version, kind) refl

-- a header that is there
pub file_read : (image : Image) (bytes : List ℕ) (ident : Identification) (header : FileHeader) (size : ℕ) →
    Ok ident ≡ identification bytes → size ≡ file_header_bytes ident.class → size ≤ length bytes → header ≡ file_header ident.class (is_big ident.«data») bytes →
    ◌≡◌ {A = Result File ElfError} (Ok (record { image = image; identification = ident; header = header })) (any_file image bytes)
unfolding any_file
file_read image bytes ident header size found is whole same =
    let file : Identification → Result File ElfError = λ ident. Ok (record { image = image; identification = ident; header = file_header ident.class (is_big ident.«data») bytes }) in
    ap {A = FileHeader} {B = Result File ElfError} (λ header. Ok (record { image = image; identification = ident; header = header })) same
    ∙ (ap (λ (b : Bool). if b then Err HeaderCut else file ident) (sym (ap (λ (n : ℕ). nat_lt (length bytes) n) (sym is) ∙ le-ltb (length bytes) size whole))
    ∙ ok_then ident (identification bytes) (λ ident. if nat_lt (length bytes) (file_header_bytes ident.class) then Err HeaderCut else file ident) found)
