-- The CRC-32 of bytes, as IEEE 802.3 section 3.2.9 and gzip have it (RFC 1952 section 8).
--     crc32 bytes      the checksum
use Rattle.std.specs.Prelude.{ℕ, ◌%◌, ◌/◌, ◌==◌, List, [], ◌∷◌, bit_xor, if◌then◌else◌}

-- x^32 + x^26 + x^23 + x^22 + x^16 + x^12 + x^11 + x^10 + x^8 + x^7 + x^5 + x^4 + x^2 + x + 1,
-- without x^32; the lowest bit is the coefficient of x^31
abbrev pub polynomial : ℕ
polynomial = 0xedb88320

-- x times a remainder, modulo the polynomial
abbrev pub next_bit : ℕ → ℕ
next_bit r = if r % 2 == 1 then bit_xor (r / 2) polynomial else r / 2

abbrev pub four_bits : ℕ → ℕ
four_bits r = next_bit (next_bit (next_bit (next_bit r)))

-- the lowest bit of a byte comes first
abbrev pub with_byte : ℕ → ℕ → ℕ
with_byte r byte = four_bits (four_bits (bit_xor r byte))

abbrev pub remainder_after : ℕ → List ℕ → ℕ
remainder_after r [] = r
remainder_after r (byte ∷ bytes) = remainder_after (with_byte r byte) bytes

-- from all ones on, and then each bit the other way round
unfoldable pub crc32 : List ℕ → ℕ
crc32 bytes = bit_xor (remainder_after 0xffffffff bytes) 0xffffffff
