-- Numbers of a fixed width, LEB128 numbers, initial lengths and texts at a place (DWARF 5 sections
-- 7.4 to 7.6).
use Rattle.std.specs.Prelude.{ℕ, ◌+◌, ◌-◌, ◌*◌, ◌^◌, ◌%◌, ℤ, pos, ◌-ℤ◌, Bool, false, not, ◌||◌}
use Rattle.std.specs.Prelude.{List, [], ◌∷◌, length, take, Result, Ok, Err, nat_lt, nat_le, ◌==◌}
use Rattle.std.specs.Prelude.{slice_index, Option, Some, None, if◌then◌else◌}
use Rattle.std.specs.List.{prefix_len, slice_get}
use Rattle.std.specs.Int.{Width, w32, w64, byte_len, from_be_bytes, from_le_bytes, cast_signed}
use Rattle.cfi_read_core.specs.declared.common.Format.{Format}
use Rattle.cfi_read_core.specs.declared.common.Format.TheVariants.{Dwarf32, Dwarf64}
use Rattle.cfi_read_core.specs.declared.common.Register.{Register}
use Rattle.cfi_read_core.specs.declared.error.Error.{Error}
use Rattle.cfi_read_core.specs.declared.error.Error.TheVariants.{BadUnsignedLeb128, BadSignedLeb128}
use Rattle.cfi_read_core.specs.declared.error.Error.TheVariants.{UnknownReservedLength}
use Rattle.cfi_read_core.specs.declared.error.Error.TheVariants.{UnsupportedRegister}
use Rattle.cfi_read_core.specs.ReadFunctions.{Read, ◌>>=◌, ◌>>◌, give, refuse, of_result, refuse_if}
use Rattle.cfi_read_core.specs.ReadFunctions.{unexpected_eof, bytes, rest, offset}

-- ---- fixed widths

abbrev pub number_of : Width → Bool → List ℕ → ℕ
number_of width big_endian bs =
    if big_endian then from_be_bytes width bs else from_le_bytes width bs

unfoldable pub unsigned : Width → Read ℕ
unsigned width = do
  bs ← bytes (byte_len width)
  λ source. give (number_of width source.big_endian bs) source

-- in two's complement
unfoldable pub signed : Width → Read ℤ
signed width = do
  n ← unsigned width
  give (cast_signed width n)

-- ---- LEB128 (DWARF 5 section 7.6); a number takes ten bytes at most

-- the low seven bits of byte i count 128 ^ i
abbrev pub leb128_sum : List ℕ → ℕ
leb128_sum [] = 0
leb128_sum (b ∷ bs) = b % 128 + 128 * leb128_sum bs

-- how many leading bytes have the high bit, nine at most: the tenth byte is the last
abbrev pub continuation_count : List ℕ → ℕ
continuation_count left = prefix_len (λ b. nat_le 128 b) (take 9 left)

-- The bytes of a number. A refusal leaves the reader after the bytes that are there.
unfoldable pub leb128_bytes : Read (List ℕ)
leb128_bytes source place =
    let left = rest source place in
    let n = continuation_count left in
    if nat_lt n (length left)
    then record { value = Ok (take (n + 1) left); place = place + n + 1 }
    else record { value = Err (unexpected_eof (place + n)); place = place + n }

-- whether a byte that may be there is a bad one
abbrev pub is_bad_byte : (ℕ → Bool) → Option ℕ → Bool
is_bad_byte is_bad (Some byte) = is_bad byte
is_bad_byte is_bad None = false

-- a tenth byte has room for one bit
unfoldable pub unsigned_leb128 : Read ℕ
unsigned_leb128 = do
  bs ← leb128_bytes
  refuse_if (is_bad_byte (λ tenth. nat_lt 1 tenth) (slice_get bs 9)) BadUnsignedLeb128
  give (leb128_sum bs)

-- bit 6 of the last byte is the sign
abbrev pub is_below_zero : List ℕ → Bool
is_below_zero bs = nat_le 64 (slice_index bs (length bs - 1) % 128)

-- a number below its weight, less the weight where the sign is set
abbrev pub number_by : Bool → ℕ → ℕ → ℤ
number_by is_negative number weight = if is_negative then pos number -ℤ pos weight else pos number

abbrev pub signed_leb128_sum : List ℕ → ℤ
signed_leb128_sum bs = number_by (is_below_zero bs) (leb128_sum bs) (128 ^ length bs)

-- a tenth byte repeats the sign
unfoldable pub signed_leb128 : Read ℤ
signed_leb128 = do
  bs ← leb128_bytes
  refuse_if (is_bad_byte (λ tenth. not (tenth == 0 || tenth == 0x7f)) (slice_get bs 9))
      BadSignedLeb128
  give (signed_leb128_sum bs)

-- a LEB128 number that has to be an offset
unfoldable pub offset_leb128 : Read ℕ
offset_leb128 = do
  n ← unsigned_leb128
  offset n

-- the register of a number
abbrev pub register_of : ℕ → Result Register Error
register_of n = if nat_le n 0xffff then Ok (record { 0 = n }) else Err (UnsupportedRegister n)

-- a LEB128 number that has to be a register's
unfoldable pub register_leb128 : Read Register
register_leb128 = do
  n ← unsigned_leb128
  of_result (register_of n)

-- ---- initial lengths (DWARF 5 section 7.4)

pub record InitialLength : Type 0 where
  pub length : ℕ
  pub format : Format

-- a length and a format of the code, as an initial length
abbrev pub initial_length_view : {O : Type 0} → (O → ℕ) → (O × Format) → InitialLength
initial_length_view number pair = record { length = number pair.0; format = pair.1 }

-- the bytes of an initial length: the length, or a mark and the length
abbrev pub initial_length_size : Format → ℕ
initial_length_size Dwarf32 = 4
initial_length_size Dwarf64 = 4 + 8

abbrev pub length_in : Format → ℕ → Read InitialLength
length_in format n = offset n >>= λ length. give (record { length = length; format = format })

-- 0xffffffff marks the 64-bit format; the other numbers from 0xfffffff0 up are reserved
unfoldable pub initial_length : Read InitialLength
initial_length = do
  n ← unsigned w32
  if nat_lt n 0xfffffff0 then length_in Dwarf32 n
      else if n == 0xffffffff then (unsigned w64 >>= length_in Dwarf64)
      else refuse (UnknownReservedLength n)

-- ---- texts

-- the bytes before the next zero, which is passed
unfoldable pub text : Read (List ℕ)
text source place =
    let left = rest source place in
    let n = prefix_len (λ b. not (b == 0)) left in
    if nat_lt n (length left)
    then record { value = Ok (take n left); place = place + n + 1 }
    else record { value = Err (unexpected_eof place); place = place }
