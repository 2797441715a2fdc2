-- An ELF file: its header, and what the header says of the whole file (System V ABI chapter 4, "ELF
-- Header", "ELF Identification").
use Rattle.std.specs.Prelude.{ℕ, Bool, false, not, List, [], ◌∷◌, Result, Ok, Err, length, min}
use Rattle.std.specs.Prelude.{nat_lt, nat_eq, codes, ◌==◌, if◌then◌else◌}
use Rattle.std.specs.List.{starts_with}
use Rattle.cfi_read_core.specs.declared.common.Vendor.{Vendor}
use Rattle.cfi_read_core.specs.declared.common.Vendor.TheVariants.{Default, AArch64}
use Rattle.cfi_read_core.specs.declared.endianity.RunTimeEndian.{RunTimeEndian}
use Rattle.cfi_read_core.specs.declared.endianity.RunTimeEndian.TheVariants.{Little, Big}
use Rattle.cfi_read_core.specs.ByteOrder.{is_big}
use Rattle.cfi_elf.specs.declared.error.ElfError.{ElfError}
use Rattle.cfi_elf.specs.declared.error.ElfError.TheVariants.{NotElf, HeaderCut, UnknownClass}
use Rattle.cfi_elf.specs.declared.error.ElfError.TheVariants.{UnknownDataEncoding, UnknownVersion}
use Rattle.cfi_elf.specs.declared.error.ElfError.TheVariants.{Relocatable, Core, NotCore}
use Rattle.cfi_elf.specs.declared.error.ElfError.TheVariants.{NotRelocatable}
use Rattle.cfi_elf.specs.declared.file_header.Class.{Class}
use Rattle.cfi_elf.specs.declared.file_header.Class.TheVariants.{Elf32, Elf64}
use Rattle.cfi_elf.specs.declared.file_header.Identification.{Identification}
use Rattle.cfi_elf.specs.declared.file_header.FileHeader.{FileHeader}
use Rattle.cfi_elf.specs.declared.elf_file.ElfFile.{ElfFile}
use Rattle.cfi_elf.specs.Fields.{field}
use Rattle.cfi_elf.specs.Headers.{file_header, file_header_bytes}
use Rattle.cfi_elf.specs.Images.{Image, bytes_at, image_view, whole}
use Rattle.cfi_elf.specs.Layouts.{by_class, file_header_fields}
use Rattle.cfi_elf.specs.Options.{meaning}
use Rattle.cfi_elf.specs.Results.{and_then, or_missing, unless}

pub record File : Type 0 where
  pub image : Image
  pub identification : Identification
  pub header : FileHeader

-- what an `ElfFile` of the code is
abbrev pub file_view : ElfFile → File
file_view file = record {
  image = image_view file.image;
  identification = file.identification;
  header = file.header;
}

abbrev pub class_of_file : File → Class
class_of_file file = file.identification.class

-- whether the most significant byte comes first
abbrev pub is_big_file : File → Bool
is_big_file file = is_big file.identification.«data»

-- ---- e_ident, which is the same in both classes

abbrev pub magic : List ℕ
magic = 0x7f ∷ 0x45 ∷ 0x4c ∷ 0x46 ∷ []

abbrev pub ident : List ℕ → List ℕ → ℕ
ident bytes name = field false bytes (file_header_fields Elf32) name

-- ELFCLASS32 and ELFCLASS64; ELFDATA2LSB and ELFDATA2MSB
abbrev pub classes : List (ℕ × Class)
classes = (1, Elf32) ∷ (2, Elf64) ∷ []

abbrev pub byte_orders : List (ℕ × RunTimeEndian)
byte_orders = (1, Little) ∷ (2, Big) ∷ []

-- EV_CURRENT is 1
unfoldable pub identification : List ℕ → Result Identification ElfError
identification bytes =
    let class = ident bytes (codes "EI_CLASS") in
    let order = ident bytes (codes "EI_DATA") in
    let version = ident bytes (codes "EI_VERSION") in
    if not (starts_with nat_eq bytes magic) then Err NotElf
    else if nat_lt (length bytes) 16 then Err HeaderCut
    else and_then (or_missing (UnknownClass class) (meaning classes class)) (λ class.
    and_then (or_missing (UnknownDataEncoding order) (meaning byte_orders order)) (λ order.
    if version == 1 then Ok (record { class = class; «data» = order })
    else Err (UnknownVersion version)))

-- ---- the header

-- EV_CURRENT is 1, ET_REL is 1, ET_CORE is 4
abbrev pub with_addresses : File → Result File ElfError
with_addresses file =
    let kind = file.header.kind in
    unless ((not (kind.e_version == 1), UnknownVersion kind.e_version)
    ∷ (kind.e_type == 1, Relocatable) ∷ (kind.e_type == 4, Core) ∷ []) file

-- the bytes that the header is read of: the longest one has 64
unfoldable pub header_bytes : Image → Result (List ℕ) ElfError
header_bytes image = bytes_at image 0 (min image.length 64) HeaderCut

-- a core file
abbrev pub only_core : File → Result File ElfError
only_core file =
    let kind = file.header.kind in
    unless ((not (kind.e_version == 1), UnknownVersion kind.e_version)
    ∷ (not (kind.e_type == 4), NotCore kind.e_type) ∷ []) file

-- a relocatable file
abbrev pub only_relocatable : File → Result File ElfError
only_relocatable file =
    let kind = file.header.kind in
    unless ((not (kind.e_version == 1), UnknownVersion kind.e_version)
    ∷ (not (kind.e_type == 1), NotRelocatable kind.e_type) ∷ []) file

-- the file of an image by these bytes, whatever its type and version, or the first error
unfoldable pub any_file : Image → List ℕ → Result File ElfError
any_file image bytes =
    and_then (identification bytes) (λ ident.
    if nat_lt (length bytes) (file_header_bytes ident.class) then Err HeaderCut
    else Ok (record {
      image = image;
      identification = ident;
      header = file_header ident.class (is_big ident.«data») bytes;
    }))

-- the program or library
unfoldable pub file_by : Image → List ℕ → Result File ElfError
file_by image bytes = and_then (any_file image bytes) with_addresses

-- the file of an image
unfoldable pub elf_file_of : Image → Result File ElfError
elf_file_of image = and_then (header_bytes image) (file_by image)

-- the file of these bytes
abbrev pub elf_file : List ℕ → Result File ElfError
elf_file bytes = elf_file_of (whole bytes)

-- the core file of these bytes
unfoldable pub core_file : List ℕ → Result File ElfError
core_file bytes =
    let image = whole bytes in
    and_then (header_bytes image) (λ header. and_then (any_file image header) only_core)

-- the relocatable file of these bytes
unfoldable pub object_file : List ℕ → Result File ElfError
object_file bytes =
    let image = whole bytes in
    and_then (header_bytes image) (λ header. and_then (any_file image header) only_relocatable)

-- ---- what the header says for call frames

-- how many bytes an address takes
abbrev pub address_size_of : Class → ℕ
address_size_of class = by_class class 4 8

-- EM_AARCH64 is 183
abbrev pub vendor_of : ℕ → Vendor
vendor_of e_machine = if e_machine == 183 then AArch64 else Default
