-- What is read of a file whose bytes may be known.
--     IsLength known n      how many bytes the file has
--     IsLengthRefused known error      why that is not told
--     IsPartRead known offset size part      what a read of a part gives
--     IsPartRefused known offset size error      why a part is not read
use Rattle.std.specs.Prelude.{◌≡◌, ◌<◌, ◌+◌, ℕ, List, length, Option, Some, IfSome, IsNone}
use Rattle.cfi_elf.specs.Fields.{part}
use Rattle.cfi_text.specs.declared.reading.InputError.{InputError}
use Rattle.cfi_text.specs.declared.reading.InputError.TheVariants.{Unreadable}
use Rattle.cfi_text.specs.Readings.{IsReadRefused}

abbrev pub IsLength : Option (List ℕ) → ℕ → Type 0
IsLength known n = IfSome known (λ all. n ≡ length all)

-- a read fails only where it is not known what the file has
abbrev pub IsLengthRefused : Option (List ℕ) → InputError → Type 0
IsLengthRefused known e = IsReadRefused e × (e ≡ Unreadable → IsNone known)

-- size bytes, which are those from the offset on where the bytes of the file are known
abbrev pub IsPartRead : Option (List ℕ) → ℕ → ℕ → List ℕ → Type 0
IsPartRead known offset size read =
    (length read ≡ size) × IfSome known (λ all. part all offset size ≡ Some read)

-- where it is known, a read fails only where the part ends after the file does
abbrev pub IsPartRefused : Option (List ℕ) → ℕ → ℕ → InputError → Type 0
IsPartRefused known offset size e =
    IsReadRefused e × (e ≡ Unreadable → IfSome known (λ all. length all < offset + size))
