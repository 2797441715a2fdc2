-- The number in the bytes that a relocation changes, its field (System V ABI chapter 4,
-- "Relocation"; the psABIs' word8, word16, word32 and word64).
use Rattle.std.specs.Prelude.{ℕ, ◌+◌, ◌*◌, ◌%◌, ◌^◌, Bool, List, ◌++◌, length, take, drop, Result}
use Rattle.std.specs.Prelude.{Ok, Err, nat_le, if◌then◌else◌}
use Rattle.std.specs.Int.{Width, w8, w16, w32, w64, byte_len, to_be_bytes, to_le_bytes}
use Rattle.cfi_elf.specs.declared.error.ElfError.{ElfError}
use Rattle.cfi_elf.specs.declared.error.ElfError.TheVariants.{RelocationOutOfBounds}
use Rattle.cfi_elf.specs.declared.relocation_kind.FieldWidth.{FieldWidth}
use Rattle.cfi_elf.specs.declared.relocation_kind.FieldWidth.TheVariants.{Byte, Half, Word, Xword}
use Rattle.cfi_elf.specs.Fields.{number_at}

abbrev pub width_of_field : FieldWidth → Width
width_of_field Byte = w8
width_of_field Half = w16
width_of_field Word = w32
width_of_field Xword = w64

-- the low bytes of a number
abbrev pub number_bytes : Bool → Width → ℕ → List ℕ
number_bytes big width number =
    let low = number % 2 ^ (8 * byte_len width) in
    if big then to_be_bytes width low else to_le_bytes width low

abbrev pub has_field : ℕ → ℕ → List ℕ → Bool
has_field offset size bytes = nat_le (offset + size) (length bytes)

-- other bytes from an offset on, where there are so many
abbrev pub write_bytes : ℕ → List ℕ → List ℕ → Result (List ℕ) ElfError
write_bytes offset written bytes =
    if has_field offset (length written) bytes
    then Ok (take offset bytes ++ (written ++ drop (offset + length written) bytes))
    else Err RelocationOutOfBounds

abbrev pub write_number : Bool → Width → ℕ → ℕ → List ℕ → Result (List ℕ) ElfError
write_number big width offset number bytes =
    write_bytes offset (number_bytes big width number) bytes

abbrev pub read_number : Bool → Width → ℕ → List ℕ → Result ℕ ElfError
read_number big width offset bytes =
    if has_field offset (byte_len width) bytes
    then Ok (number_at big bytes offset width)
    else Err RelocationOutOfBounds
