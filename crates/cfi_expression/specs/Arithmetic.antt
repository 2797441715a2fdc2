-- Arithmetic of the entries of a stack (DWARF 5 sections 2.5.1.4 and 2.5.1.5). An entry is as wide
-- as an address, of `size` bytes: arithmetic is modulo 2 ^ (8 * size), and a number with a sign is
-- in two's complement.
--     low size a      the low bits of a number, of which an entry has room
--     one_of size o top      what a unary operation gives
--     two_of size o second top      what a binary operation gives, or a division by zero
use Rattle.std.specs.Prelude.{ℕ, ◌-◌, ◌*◌, ◌/◌, ◌%◌, ◌^◌, ℤ, Bool, not, nat_le, ◌==◌, Result, Ok}
use Rattle.std.specs.Prelude.{Err, bit_and, bit_or, bit_xor, if◌then◌else◌}
use Rattle.std.specs.Int.{w64, cast_unsigned, from_bool, int_wrapping_div}
use Rattle.std.specs.Int.RustNames.{int_lt, int_le}
use Rattle.cfi_read_core.specs.Numbers.{number_by}
use Rattle.cfi_read_core.specs.Addresses.{wrap}
use Rattle.cfi_expression.specs.declared.error.FrameError.{FrameError}
use Rattle.cfi_expression.specs.declared.error.FrameError.TheVariants.{DivisionByZero}
use Rattle.cfi_expression.specs.declared.operation.UnaryOperation.{UnaryOperation}
use Rattle.cfi_expression.specs.declared.operation.UnaryOperation.TheVariants.{Abs, Neg, Not}
use Rattle.cfi_expression.specs.declared.operation.UnaryOperation.TheVariants.{PlusConstant}
use Rattle.cfi_expression.specs.declared.operation.BinaryOperation.{BinaryOperation}
use Rattle.cfi_expression.specs.declared.operation.BinaryOperation.TheVariants.{And, Div, Minus}
use Rattle.cfi_expression.specs.declared.operation.BinaryOperation.TheVariants.{Mod, Mul, Or, Plus}
use Rattle.cfi_expression.specs.declared.operation.BinaryOperation.TheVariants.{Shl, Shr, Shra, Xor}
use Rattle.cfi_expression.specs.declared.operation.BinaryOperation.TheVariants.{Eq, Ge, Gt, Le, Lt}
use Rattle.cfi_expression.specs.declared.operation.BinaryOperation.TheVariants.{Ne}

module _ (size : ℕ) where
  -- one plus the greatest entry
  abbrev pub modulus : ℕ
  modulus = 2 ^ (8 * size)

  abbrev pub low : ℕ → ℕ
  low a = a % modulus

  -- ---- numbers with a sign

  -- whether the highest bit is set
  abbrev pub is_negative : ℕ → Bool
  is_negative a = nat_le (2 ^ (8 * size - 1)) (low a)

  abbrev pub signed : ℕ → ℤ
  signed a = number_by (is_negative a) (low a) modulus

  -- an address, or an entry, plus a number with a sign
  abbrev pub displaced : ℕ → ℤ → ℕ
  displaced a offset = wrap a (cast_unsigned w64 offset) size

  -- ---- one entry

  abbrev pub complement : ℕ → ℕ
  complement a = modulus - 1 - low a

  abbrev pub negated : ℕ → ℕ
  negated a = low (modulus - low a)

  abbrev pub one_of : UnaryOperation → ℕ → ℕ
  one_of Abs top = if is_negative top then negated top else low top
  one_of Neg top = negated top
  one_of Not top = complement top
  one_of (PlusConstant n) top = wrap top n size

  -- ---- two entries: the second, and the top

  -- a shift to the right fills with zeros, or with the sign
  abbrev pub shifted_right : ℕ → ℕ → ℕ
  shifted_right second top = second / 2 ^ top

  abbrev pub shifted_with_sign : ℕ → ℕ → ℕ
  shifted_with_sign second top =
      if is_negative second then modulus - 1 - complement second / 2 ^ top
      else shifted_right second top

  -- the quotient of the numbers with a sign, rounded towards zero
  abbrev pub quotient : ℕ → ℕ → ℕ
  quotient second top = low (cast_unsigned w64 (int_wrapping_div w64 (signed second) (signed top)))

  abbrev pub by_nonzero : ℕ → ℕ → Result ℕ FrameError
  by_nonzero top value = if low top == 0 then Err DivisionByZero else Ok value

  -- comparisons are of the numbers with a sign
  abbrev pub less : ℕ → ℕ → Bool
  less a b = int_lt (signed a) (signed b)

  abbrev pub less_or_equal : ℕ → ℕ → Bool
  less_or_equal a b = int_le (signed a) (signed b)

  abbrev pub two_of : BinaryOperation → ℕ → ℕ → Result ℕ FrameError
  two_of And second top = Ok (bit_and second top)
  two_of Div second top = by_nonzero top (quotient second top)
  two_of Minus second top = Ok (wrap second (negated top) size)
  two_of Mod second top = by_nonzero top (low second % low top)
  two_of Mul second top = Ok (low (second * top))
  two_of Or second top = Ok (bit_or second top)
  two_of Plus second top = Ok (wrap second top size)
  two_of Shl second top = Ok (low (second * 2 ^ top))
  two_of Shr second top = Ok (shifted_right second top)
  two_of Shra second top = Ok (shifted_with_sign second top)
  two_of Xor second top = Ok (bit_xor second top)
  two_of Eq second top = Ok (from_bool (second == top))
  two_of Ge second top = Ok (from_bool (less_or_equal top second))
  two_of Gt second top = Ok (from_bool (less top second))
  two_of Le second top = Ok (from_bool (less_or_equal second top))
  two_of Lt second top = Ok (from_bool (less second top))
  two_of Ne second top = Ok (from_bool (not (second == top)))
