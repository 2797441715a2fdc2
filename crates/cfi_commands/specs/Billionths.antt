-- Numbers with decimals, in billionths.
--     billionths_of text      a number with at most nine decimals
use Rattle.std.specs.Prelude.{ℕ, ◌==◌, ◌&&◌, Bool, [], ◌++◌, Option, None, codes}
use Rattle.std.specs.Prelude.{drop, length, nat_le, if◌then◌else◌}
use Rattle.std.specs.List.{after_first, before_first, position_or_len}
use Rattle.clap.specs.Words.{Text}
use Rattle.cfi_flame.specs.Decimals.{decimal_of}

abbrev pub is_dot : ℕ → Bool
is_dot c = c == 46

-- with zeros up to nine decimals, the digits are those of the billionths
abbrev pub in_billionths : Text → Text → Option ℕ
in_billionths whole decimals =
    if nat_le 1 (length whole) && nat_le (length decimals) 9
    then decimal_of (whole ++ decimals ++ drop (length decimals) (codes "000000000"))
    else None

-- a whole number, and behind a dot the decimals
abbrev pub billionths_of : Text → Option ℕ
billionths_of text =
    if position_or_len is_dot text == length text then in_billionths text []
    else in_billionths (before_first is_dot text) (after_first is_dot text)
