-- Numbers in words, by computation.
use Rattle.std.proofs.Common.{◌≡◌, [], ◌∷◌, Some, None, map, refl, codes}
use Rattle.cfi_programs.specs.Numbers.{number}

hexadecimal : map number (codes "0x1002" ∷ codes "0x1F0a" ∷ codes "0x0" ∷ codes "0x0000000000001002" ∷ codes "0xffffffffffffffff" ∷ [])
    ≡ Some 0x1002 ∷ Some 0x1f0a ∷ Some 0 ∷ Some 0x1002 ∷ Some 0xffffffffffffffff ∷ []
hexadecimal = refl

decimal : map number (codes "0" ∷ codes "10" ∷ codes "4098" ∷ codes "18446744073709551615" ∷ []) ≡ Some 0 ∷ Some 10 ∷ Some 0x1002 ∷ Some 0xffffffffffffffff ∷ []
decimal = refl

-- a leading zero is a decimal digit, in up to 20 of them
with_leading_zeros : map number (codes "00" ∷ codes "010" ∷ codes "01002" ∷ codes "04098" ∷ codes "00000000000000004098" ∷ [])
    ≡ Some 0 ∷ Some 10 ∷ Some 1002 ∷ Some 0x1002 ∷ Some 0x1002 ∷ []
with_leading_zeros = refl

-- another prefix, digits of another base, a sign
no_numbers : map number (codes "0X1002" ∷ codes "0b1" ∷ codes "0x0X1" ∷ codes "1002h" ∷ codes "x1002" ∷ codes "0x-1" ∷ codes "0x+1" ∷ codes "-1" ∷ codes "+1" ∷ codes " 1" ∷ [])
    ≡ None ∷ None ∷ None ∷ None ∷ None ∷ None ∷ None ∷ None ∷ None ∷ None ∷ []
no_numbers = refl

-- no digits, too many of them, too great a value
wrong_lengths : map number (codes "" ∷ codes "0x" ∷ codes "0x00000000000001002" ∷ codes "000000000000000004098" ∷ codes "18446744073709551616" ∷ codes "99999999999999999999" ∷ [])
    ≡ None ∷ None ∷ None ∷ None ∷ None ∷ None ∷ []
wrong_lengths = refl
