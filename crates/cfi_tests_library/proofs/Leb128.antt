-- LEB128 numbers by the definitions that the contracts of the number readers cite, for any reader:
-- the examples of DWARF 5 section 7.6, padding, the greatest and the least numbers, numbers that
-- don't fit, and numbers that are cut.
use Rattle.std.proofs.Common.{◌≡◌, ℕ, ℤ, List, [], ◌∷◌, length, false, Ok, Err, pos, negsuc, refl}
use Rattle.cfi_read_core.specs.declared.error.Error.TheVariants.{BadUnsignedLeb128, BadSignedLeb128}
use Rattle.cfi_read_core.specs.ReadFunctions.{Source, Outcome, unexpected_eof}
use Rattle.cfi_read_core.specs.Numbers.{leb128_bytes, unsigned_leb128, signed_leb128}

abbrev all_of : List ℕ → Source
all_of bs = record { whole = bs; last = length bs; big_endian = false; greatest = 0xffffffffffffffff }

-- the number at the first of bytes without a sign, and with one; each with the place after it
abbrev both : List ℕ → Outcome ℕ × Outcome ℤ
both bs = (unsigned_leb128 (all_of bs) 0, signed_leb128 (all_of bs) 0)

two : both (0x02 ∷ []) ≡ (record { value = Ok 2; place = 1 }, record { value = Ok (pos 2); place = 1 })
unfolding leb128_bytes unsigned_leb128 signed_leb128
two = refl

minus_two : both (0x7e ∷ []) ≡ (record { value = Ok 126; place = 1 }, record { value = Ok (negsuc 1); place = 1 })
unfolding leb128_bytes unsigned_leb128 signed_leb128
minus_two = refl

minus_one : both (0x7f ∷ []) ≡ (record { value = Ok 127; place = 1 }, record { value = Ok (negsuc 0); place = 1 })
unfolding leb128_bytes unsigned_leb128 signed_leb128
minus_one = refl

n128 : both (0x80 ∷ 0x01 ∷ []) ≡ (record { value = Ok 128; place = 2 }, record { value = Ok (pos 128); place = 2 })
unfolding leb128_bytes unsigned_leb128 signed_leb128
n128 = refl

n129 : both (0x81 ∷ 0x01 ∷ []) ≡ (record { value = Ok 129; place = 2 }, record { value = Ok (pos 129); place = 2 })
unfolding leb128_bytes unsigned_leb128 signed_leb128
n129 = refl

n12857 : both (0xb9 ∷ 0x64 ∷ []) ≡ (record { value = Ok 12857; place = 2 }, record { value = Ok (negsuc 3526); place = 2 })
unfolding leb128_bytes unsigned_leb128 signed_leb128
n12857 = refl

padded_127 : both (0xff ∷ 0x00 ∷ []) ≡ (record { value = Ok 127; place = 2 }, record { value = Ok (pos 127); place = 2 })
unfolding leb128_bytes unsigned_leb128 signed_leb128
padded_127 = refl

minus_127 : both (0x81 ∷ 0x7f ∷ []) ≡ (record { value = Ok 16257; place = 2 }, record { value = Ok (negsuc 126); place = 2 })
unfolding leb128_bytes unsigned_leb128 signed_leb128
minus_127 = refl

minus_128 : both (0x80 ∷ 0x7f ∷ []) ≡ (record { value = Ok 16256; place = 2 }, record { value = Ok (negsuc 127); place = 2 })
unfolding leb128_bytes unsigned_leb128 signed_leb128
minus_128 = refl

padded_16 : both (0x90 ∷ 0x80 ∷ 0x00 ∷ []) ≡ (record { value = Ok 16; place = 3 }, record { value = Ok (pos 16); place = 3 })
unfolding leb128_bytes unsigned_leb128 signed_leb128
padded_16 = refl

greatest_unsigned : both (0xff ∷ 0xff ∷ 0xff ∷ 0xff ∷ 0xff ∷ 0xff ∷ 0xff ∷ 0xff ∷ 0xff ∷ 0x01 ∷ []) ≡ (record { value = Ok 0xffffffffffffffff; place = 10 }, record { value = Err BadSignedLeb128; place = 10 })
unfolding leb128_bytes unsigned_leb128 signed_leb128
greatest_unsigned = refl

greatest_bit : both (0x80 ∷ 0x80 ∷ 0x80 ∷ 0x80 ∷ 0x80 ∷ 0x80 ∷ 0x80 ∷ 0x80 ∷ 0x80 ∷ 0x01 ∷ []) ≡ (record { value = Ok 0x8000000000000000; place = 10 }, record { value = Err BadSignedLeb128; place = 10 })
unfolding leb128_bytes unsigned_leb128 signed_leb128
greatest_bit = refl

too_great_for_both : both (0x80 ∷ 0x80 ∷ 0x80 ∷ 0x80 ∷ 0x80 ∷ 0x80 ∷ 0x80 ∷ 0x80 ∷ 0x80 ∷ 0x02 ∷ []) ≡ (record { value = Err BadUnsignedLeb128; place = 10 }, record { value = Err BadSignedLeb128; place = 10 })
unfolding leb128_bytes unsigned_leb128 signed_leb128
too_great_for_both = refl

least_signed : both (0x80 ∷ 0x80 ∷ 0x80 ∷ 0x80 ∷ 0x80 ∷ 0x80 ∷ 0x80 ∷ 0x80 ∷ 0x80 ∷ 0x7f ∷ []) ≡ (record { value = Err BadUnsignedLeb128; place = 10 }, record { value = Ok (negsuc 9223372036854775807); place = 10 })
unfolding leb128_bytes unsigned_leb128 signed_leb128
least_signed = refl

cut_after_two : both (0x80 ∷ 0x80 ∷ []) ≡ (record { value = Err (unexpected_eof 2); place = 2 }, record { value = Err (unexpected_eof 2); place = 2 })
unfolding leb128_bytes unsigned_leb128 signed_leb128
cut_after_two = refl

cut_after_one : both (0xff ∷ []) ≡ (record { value = Err (unexpected_eof 1); place = 1 }, record { value = Err (unexpected_eof 1); place = 1 })
unfolding leb128_bytes unsigned_leb128 signed_leb128
cut_after_one = refl

no_byte : both [] ≡ (record { value = Err (unexpected_eof 0); place = 0 }, record { value = Err (unexpected_eof 0); place = 0 })
unfolding leb128_bytes unsigned_leb128 signed_leb128
no_byte = refl
