-- Symbols that are told in a text, a line each.
--     Symbol, symbol_view      a symbol, and that of the code
--     text_lines text      the lines
--     split_at_byte byte text      what is before the first byte of a value, and what is after it
--     told_number digits      a number in hexadecimal digits
--     nearest_among symbols a      the last symbol of those that begin at an address, or else
--         nearest before it
use Rattle.std.specs.Option.{option_or}
use Rattle.std.specs.Prelude.{ℕ, zero, suc, ◌+◌, ◌-◌, ◌*◌, ◌^◌, ◌==◌, ◌&&◌, Bool, List, [], ◌∷◌}
use Rattle.std.specs.Prelude.{Option, Some, None, drop, nat_le, nat_lt, option_and_then, option_map}
use Rattle.std.specs.Prelude.{position, take, if◌then◌else◌}
use Rattle.std.specs.List.{slice_split}
use Rattle.cfi_mapped.specs.declared.text_symbols.TextParts.{TextParts as PartsOfCode}
use Rattle.cfi_mapped.specs.declared.text_symbols.TextSymbol.{TextSymbol}

pub record Symbol : Type 0 where
  pub address : ℕ
  pub size : ℕ  -- 0 where the text doesn't tell it
  pub is_function : Bool
  pub name : List ℕ
  pub owner : Option (List ℕ)  -- the module; none of the kernel itself

abbrev pub symbol_view : TextSymbol → Symbol
symbol_view symbol = record {
  address = symbol.address;
  size = symbol.size;
  is_function = symbol.is_function;
  name = symbol.name.now;
  owner = option_map (λ owner. owner.now) symbol.owner;
}

-- ---- a text

abbrev pub text_lines : List ℕ → List (List ℕ)
text_lines text = slice_split (λ c. c == 10) text

-- Two parts of a text, with one byte between them.
pub record TextParts : Type 0 where
  pub front : List ℕ
  pub rest : List ℕ

abbrev pub text_parts_view : PartsOfCode → TextParts
text_parts_view parts = record { front = parts.front.now; rest = parts.rest.now }

-- before the first byte of this value, and after it
abbrev pub split_at_byte : ℕ → List ℕ → Option TextParts
split_at_byte byte text =
    option_map (λ k. record { front = take k text; rest = drop (k + 1) text })
    (position (λ c. c == byte) text)

-- of either case
abbrev pub digit_of : ℕ → Option ℕ
digit_of c =
    if nat_le 48 c && nat_le c 57 then Some (c - 48)
    else if nat_le 97 c && nat_le c 102 then Some (c - 87)
    else if nat_le 65 c && nat_le c 70 then Some (c - 55)
    else None

-- a number and one more digit, where that is below 2^64
abbrev pub with_digit_value : ℕ → ℕ → Option ℕ
with_digit_value number value = if nat_lt number (2 ^ 60) then Some (number * 16 + value) else None

abbrev pub with_hexadecimal_digit : ℕ → ℕ → Option ℕ
with_hexadecimal_digit number digit = option_and_then (with_digit_value number) (digit_of digit)

abbrev pub told_number_from : ℕ → List ℕ → Option ℕ
told_number_from number [] = Some number
told_number_from number (digit ∷ digits) =
    option_and_then (λ more. told_number_from more digits) (with_hexadecimal_digit number digit)

-- of one digit or more
abbrev pub told_number : List ℕ → Option ℕ
told_number [] = None
told_number (digit ∷ digits) = told_number_from 0 (digit ∷ digits)

-- ---- by their addresses

-- the last that begins at an address
abbrev pub last_at : List Symbol → ℕ → Option Symbol
last_at [] a = None
last_at (s ∷ symbols) a = option_or (last_at symbols a) (if s.address == a then Some s else None)

-- the one that begins at the address, or else nearest before it
abbrev pub nearest_by : (ℕ → Option Symbol) → ℕ → Option Symbol
nearest_by last zero = last zero
nearest_by last (suc a) = option_or (last (suc a)) (nearest_by last a)

abbrev pub nearest_among : List Symbol → ℕ → Option Symbol
nearest_among symbols a = nearest_by (last_at symbols) a
