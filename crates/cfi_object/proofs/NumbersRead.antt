-- Numbers in words, by computation.
use Rattle.std.proofs.Common.{◌≡◌, [], ◌∷◌, Some, None, map, refl, codes}
use Rattle.cfi_object.specs.Numbers.{number}

prefixed : map number (codes "0x10" ∷ codes "0X1f" ∷ codes "0xA" ∷ codes "0xffffffffffffffff" ∷ [])
    ≡ Some 16 ∷ Some 31 ∷ Some 10 ∷ Some 0xffffffffffffffff ∷ []
prefixed = refl

-- as nm(1) prints addresses
with_leading_zeros : map number (codes "0000000000413320" ∷ codes "00" ∷ codes "010" ∷ codes "0b" ∷ []) ≡ Some 0x413320 ∷ Some 0 ∷ Some 16 ∷ Some 11 ∷ []
with_leading_zeros = refl

plain : map number (codes "0" ∷ codes "10" ∷ codes "18446744073709551615" ∷ []) ≡ Some 0 ∷ Some 10 ∷ Some 0xffffffffffffffff ∷ []
plain = refl

-- no digits, too many of them, others than digits, too great a value
no_numbers : map number (codes "" ∷ codes "0x" ∷ codes "0X" ∷ codes "x1" ∷ codes "0x0X1" ∷ codes "00000000004133200" ∷ codes "413320a" ∷ codes "18446744073709551616" ∷ [])
    ≡ None ∷ None ∷ None ∷ None ∷ None ∷ None ∷ None ∷ None ∷ []
no_numbers = refl
