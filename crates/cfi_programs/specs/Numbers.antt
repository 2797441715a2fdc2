-- The number that a word is.
--     number word      0x and 1 to 16 hexadecimal digits of either case, or 1 to 20 decimal ones of
--         a value below 2^64
use Rattle.std.specs.Prelude.{ℕ, ◌^◌, Bool, ◌&&◌, Option, Some, None, List, length, take, drop}
use Rattle.std.specs.Prelude.{nat_le, nat_lt, codes, if◌then◌else◌}
use Rattle.std.specs.Char.{is_ascii_digit, is_ascii_hexdigit}
use Rattle.std.specs.List.{list_all}
use Rattle.std.specs.Str.{bytes_eq}
use Rattle.std.specs.Str.Parse.{digits_value}

-- what comes after the start of a word that begins with it
abbrev pub after_prefix : List ℕ → List ℕ → Option (List ℕ)
after_prefix start word =
    if bytes_eq (take (length start) word) start then Some (drop (length start) word) else None

abbrev pub has_length : ℕ → List ℕ → Bool
has_length most digits = nat_le 1 (length digits) && nat_le (length digits) most

abbrev pub below_2_64 : ℕ → Option ℕ
below_2_64 n = if nat_lt n (2 ^ 64) then Some n else None

-- 1 to 16 digits of either case, after 0x
abbrev pub hexadecimal_number : List ℕ → Option ℕ
hexadecimal_number digits =
    if has_length 16 digits && list_all is_ascii_hexdigit digits
    then Some (digits_value 16 digits)
    else None

-- 1 to 20 digits; a leading zero is one of them
abbrev pub decimal_number : List ℕ → Option ℕ
decimal_number digits =
    if has_length 20 digits && list_all is_ascii_digit digits
    then below_2_64 (digits_value 10 digits)
    else None

abbrev pub number_after : List ℕ → Option (List ℕ) → Option ℕ
number_after word (Some digits) = hexadecimal_number digits
number_after word None = decimal_number word

abbrev pub number : List ℕ → Option ℕ
number word = number_after word (after_prefix (codes "0x") word)
