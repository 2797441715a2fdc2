-- A file of which parts were read. What the file has elsewhere is not known.
use Rattle.std.specs.Prelude.{ℕ, ◌+◌, ◌-◌, ◌≡◌, List, [], ◌∷◌, length, map, Option, Some, None}
use Rattle.std.specs.Prelude.{Result, Ok, Err, nat_le, if◌then◌else◌}
use Rattle.cfi_elf.specs.declared.error.ElfError.{ElfError}
use Rattle.cfi_elf.specs.declared.error.ElfError.TheVariants.{NotRead}
use Rattle.cfi_elf.specs.declared.image.FilePart.{FilePart}
use Rattle.cfi_elf.specs.declared.image.Image.{Image as ImageOfCode}
use Rattle.cfi_elf.specs.Fields.{part}
use Rattle.cfi_elf.specs.Options.{or_else}
use Rattle.cfi_elf.specs.Results.{and_then, or_missing}

-- The bytes from an offset on.
pub record Part : Type 0 where
  pub offset : ℕ
  pub bytes : List ℕ

-- How many bytes the file has, those from its beginning on, and other parts.
pub record Image : Type 0 where
  pub length : ℕ
  pub first : List ℕ
  pub parts : List Part

-- what a part and an image of the code are
abbrev pub part_view : FilePart → Part
part_view read = record { offset = read.offset; bytes = read.bytes.items }

abbrev pub parts_view : List FilePart → List Part
parts_view parts = map part_view parts

abbrev pub image_view : ImageOfCode → Image
image_view image =
    record { length = image.length; first = image.first.now; parts = parts_view image.parts.now }

-- a file all of whose bytes were read
abbrev pub whole : List ℕ → Image
whole bytes = record { length = length bytes; first = bytes; parts = [] }

-- ---- size bytes from an offset on

-- those that a part has, if it has them all
abbrev pub in_part : ℕ → ℕ → Part → Option (List ℕ)
in_part offset size read =
    if nat_le read.offset offset then part read.bytes (offset - read.offset) size else None

-- by the first part that has them all
abbrev pub in_parts : ℕ → ℕ → List Part → Option (List ℕ)
in_parts offset size [] = None
in_parts offset size (read ∷ parts) =
    or_else (in_part offset size read) (in_parts offset size parts)

-- bytes that were read, or an error
abbrev pub if_read : ℕ → ℕ → Option (List ℕ) → Result (Option (List ℕ)) ElfError
if_read offset size (Some bytes) = Ok (Some bytes)
if_read offset size None = Err (NotRead offset size)

-- none where the file has fewer
abbrev pub image_part : Image → ℕ → ℕ → Result (Option (List ℕ)) ElfError
image_part image offset size =
    if nat_le (offset + size) image.length
    then if_read offset size
    (or_else (part image.first offset size) (in_parts offset size image.parts))
    else Ok None

-- this error where the file has fewer
unfoldable pub bytes_at : Image → ℕ → ℕ → ElfError → Result (List ℕ) ElfError
bytes_at image offset size error = and_then (image_part image offset size) (or_missing error)

-- ---- what an image tells of the file

-- that a part has the bytes of the file
abbrev pub IsPartOf : List ℕ → Part → Type 0
IsPartOf bytes read = part bytes read.offset (length read.bytes) ≡ Some read.bytes

abbrev pub ArePartsOf : List ℕ → List Part → Type 0
ArePartsOf bytes [] = Unit {0}
ArePartsOf bytes (read ∷ parts) = IsPartOf bytes read × ArePartsOf bytes parts

-- that these are the bytes of the file
pub record IsImageOf (image : Image) (bytes : List ℕ) : Type 0 where
  pub length_is : image.length ≡ length bytes
  pub first_is : part bytes 0 (length image.first) ≡ Some image.first
  pub parts_are : ArePartsOf bytes image.parts

-- that no byte was needed that was not read
abbrev pub IsRead : {A : Type 0} → Result A ElfError → Type 0
IsRead r = (offset size : ℕ) → r ≡ Err (NotRead offset size) → ⊥

-- that the error is this one
abbrev pub IsNotRead : ElfError → Type 0
IsNotRead e = (offset : ℕ) × (size : ℕ) × (e ≡ NotRead offset size)
