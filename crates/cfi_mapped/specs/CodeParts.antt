-- Files of code of which parts were read.
--     parts_of code, image_in code      what was read of one, if it was
--     is_whole code      whether all of it was read
--     is_told name map_name code      whether all was read of a text that the kernel or a process
--         tells
--     ArePartsOfBytes code bytes      the parts are those of a file of these bytes, or there are
--         neither
--     ArePartsOf IsRight code      the parts are those of a file of right bytes
use Rattle.std.specs.Prelude.{◌≡◌, ℕ, ◌==◌, Bool, true, not, ◌||◌, List, length, Option, Some}
use Rattle.std.specs.Prelude.{None, option_map}
use Rattle.cfi_elf.specs.Images.{Image, IsImageOf}
use Rattle.cfi_object.specs.FileParts.{image_of}
use Rattle.cfi_mapped.specs.declared.code_parts.CodeParts.{CodeParts}
use Rattle.cfi_object.specs.FileParts.{image_of}
use Rattle.cfi_mapped.specs.Wanted.{is_text}

abbrev pub parts_of : CodeParts → Image
parts_of code = image_of code.parts

abbrev pub image_in : Option CodeParts → Option Image
image_in code = option_map parts_of code

abbrev pub beginning_in : Option CodeParts → Option (List ℕ)
beginning_in code = option_map (λ code. (parts_of code).first) code

abbrev pub is_whole : Option CodeParts → Bool
is_whole None = true
is_whole (Some code) = (parts_of code).length == length (parts_of code).first

-- what the kernel tells, or a process in a file with a name
abbrev pub is_told : {A : Type 0} → List ℕ → Option A → Option CodeParts → Bool
is_told name map_name code = not (is_text name map_name) || is_whole code

abbrev pub ArePartsOfBytes : Option CodeParts → Option (List ℕ) → Type 0
ArePartsOfBytes None bytes = bytes ≡ None
ArePartsOfBytes (Some code) None = ⊥
ArePartsOfBytes (Some code) (Some bytes) = IsImageOf (parts_of code) bytes

abbrev pub ArePartsOf : (Option (List ℕ) → Type 0) → Option CodeParts → Type 0
ArePartsOf IsRight code = (bytes : Option (List ℕ)) × IsRight bytes × ArePartsOfBytes code bytes
