-- Numbers at places, by computation.
use Rattle.std.proofs.Common.{◌≡◌, ℕ, List, [], ◌∷◌, length, false, Ok, Err, negsuc, refl}
use Rattle.std.specs.Int.{w16}
use Rattle.cfi_read_core.specs.declared.error.Error.TheVariants.{BadUnsignedLeb128, BadSignedLeb128, UnknownReservedLength, UnsupportedRegister, UnsupportedOffset}
use Rattle.cfi_read_core.specs.declared.common.Format.TheVariants.{Dwarf32, Dwarf64}
use Rattle.cfi_read_core.specs.ReadFunctions.{Read, Outcome, unexpected_eof}
use Rattle.cfi_read_core.specs.Numbers.{unsigned, signed, leb128_bytes, unsigned_leb128, signed_leb128, register_leb128, offset_leb128, initial_length, text}

-- a read at the first of little-endian bytes, with offsets of eight bytes, and of four
abbrev wide : {A : Type 0} → Read A → List ℕ → Outcome A
wide read bs = read (record { whole = bs; last = length bs; big_endian = false; greatest = 0xffffffffffffffff }) 0

abbrev narrow : {A : Type 0} → Read A → List ℕ → Outcome A
narrow read bs = read (record { whole = bs; last = length bs; big_endian = false; greatest = 0xffffffff }) 0

-- ---- LEB128

padding_is_accepted : wide unsigned_leb128 (0x90 ∷ 0x80 ∷ 0x00 ∷ []) ≡ record { value = Ok 16; place = 3 }
unfolding leb128_bytes unsigned_leb128
padding_is_accepted = refl

tenth_byte_too_large : wide unsigned_leb128 (0x80 ∷ 0x80 ∷ 0x80 ∷ 0x80 ∷ 0x80 ∷ 0x80 ∷ 0x80 ∷ 0x80 ∷ 0x80 ∷ 0x02 ∷ []) ≡ record { value = Err BadUnsignedLeb128; place = 10 }
unfolding leb128_bytes unsigned_leb128
tenth_byte_too_large = refl

greatest_unsigned : wide unsigned_leb128 (0xff ∷ 0xff ∷ 0xff ∷ 0xff ∷ 0xff ∷ 0xff ∷ 0xff ∷ 0xff ∷ 0xff ∷ 0x01 ∷ []) ≡ record { value = Ok 0xffffffffffffffff; place = 10 }
unfolding leb128_bytes unsigned_leb128
greatest_unsigned = refl

least_signed : wide signed_leb128 (0x80 ∷ 0x80 ∷ 0x80 ∷ 0x80 ∷ 0x80 ∷ 0x80 ∷ 0x80 ∷ 0x80 ∷ 0x80 ∷ 0x7f ∷ []) ≡ record { value = Ok (negsuc 9223372036854775807); place = 10 }
unfolding leb128_bytes signed_leb128
least_signed = refl

tenth_byte_changes_the_sign : wide signed_leb128 (0x80 ∷ 0x80 ∷ 0x80 ∷ 0x80 ∷ 0x80 ∷ 0x80 ∷ 0x80 ∷ 0x80 ∷ 0x80 ∷ 0x01 ∷ []) ≡ record { value = Err BadSignedLeb128; place = 10 }
unfolding leb128_bytes signed_leb128
tenth_byte_changes_the_sign = refl

minus_9999 : wide signed_leb128 (0xf1 ∷ 0xb1 ∷ 0x7f ∷ []) ≡ record { value = Ok (negsuc 9998); place = 3 }
unfolding leb128_bytes signed_leb128
minus_9999 = refl

no_such_register : wide register_leb128 (0x80 ∷ 0x80 ∷ 0x04 ∷ []) ≡ record { value = Err (UnsupportedRegister 65536); place = 3 }
unfolding leb128_bytes unsigned_leb128 register_leb128
no_such_register = refl

missing_byte : wide unsigned_leb128 (0x80 ∷ 0x80 ∷ []) ≡ record { value = Err (unexpected_eof 2); place = 2 }
unfolding leb128_bytes unsigned_leb128
missing_byte = refl

no_narrow_offset : narrow offset_leb128 (0x80 ∷ 0x80 ∷ 0x80 ∷ 0x80 ∷ 0x10 ∷ []) ≡ record { value = Err UnsupportedOffset; place = 5 }
unfolding leb128_bytes unsigned_leb128 offset_leb128
no_narrow_offset = refl

-- ---- fixed widths and initial lengths

number_cut_off : wide (unsigned w16) (1 ∷ []) ≡ record { value = Err (unexpected_eof 0); place = 0 }
unfolding unsigned
number_cut_off = refl

signed_16 : wide (signed w16) (0xfe ∷ 0xff ∷ []) ≡ record { value = Ok (negsuc 1); place = 2 }
unfolding unsigned signed
signed_16 = refl

length_32 : wide initial_length (16 ∷ 0 ∷ 0 ∷ 0 ∷ []) ≡ record { value = Ok (record { length = 16; format = Dwarf32 }); place = 4 }
unfolding unsigned initial_length
length_32 = refl

length_64 : wide initial_length (0xff ∷ 0xff ∷ 0xff ∷ 0xff ∷ 20 ∷ 0 ∷ 0 ∷ 0 ∷ 0 ∷ 0 ∷ 0 ∷ 0 ∷ []) ≡ record { value = Ok (record { length = 20; format = Dwarf64 }); place = 12 }
unfolding unsigned initial_length
length_64 = refl

reserved_length : wide initial_length (0xf5 ∷ 0xff ∷ 0xff ∷ 0xff ∷ []) ≡ record { value = Err (UnknownReservedLength 0xfffffff5); place = 4 }
unfolding unsigned initial_length
reserved_length = refl

length_cut_off : wide initial_length (5 ∷ 0 ∷ []) ≡ record { value = Err (unexpected_eof 0); place = 0 }
unfolding unsigned initial_length
length_cut_off = refl

length_64_cut_off : wide initial_length (0xff ∷ 0xff ∷ 0xff ∷ 0xff ∷ 0x39 ∷ 0x30 ∷ 0 ∷ 0 ∷ []) ≡ record { value = Err (unexpected_eof 4); place = 4 }
unfolding unsigned initial_length
length_64_cut_off = refl

no_narrow_length : narrow initial_length (0xff ∷ 0xff ∷ 0xff ∷ 0xff ∷ 0 ∷ 0 ∷ 0 ∷ 0 ∷ 1 ∷ 0 ∷ 0 ∷ 0 ∷ []) ≡ record { value = Err UnsupportedOffset; place = 12 }
unfolding unsigned initial_length
no_narrow_length = refl

text_before_zero : wide text (0x7a ∷ 0x52 ∷ 0x00 ∷ 0x01 ∷ []) ≡ record { value = Ok (0x7a ∷ 0x52 ∷ []); place = 3 }
unfolding text
text_before_zero = refl
