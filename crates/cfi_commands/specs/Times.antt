-- The times of `--time`, one range of the form that perf-script(1) has: `FROM,UNTIL`, in seconds.
--     times_of text      two times in nanoseconds, of which each may be left out
use Rattle.std.specs.Prelude.{ℕ, ◌==◌, Bool, [], ◌∷◌, Option, Some, None}
use Rattle.std.specs.Prelude.{length, option_map, if◌then◌else◌}
use Rattle.std.specs.List.{after_first, before_first, position_or_len}
use Rattle.clap.specs.Words.{Text}
use Rattle.cfi_commands.specs.Billionths.{billionths_of}
use Rattle.cfi_commands.specs.declared.times.Times.{Times}

abbrev pub is_comma : ℕ → Bool
is_comma c = c == 44

-- a side of the comma, which may be empty: nanoseconds are billionths of a second
abbrev pub side_of : Text → Option (Option ℕ)
side_of [] = Some None
side_of (c ∷ more) = option_map Some (billionths_of (c ∷ more))

abbrev pub both_sides : Option (Option ℕ) → Option (Option ℕ) → Option Times
both_sides (Some from) (Some until) = Some (record { from = from; until = until })
both_sides _ _ = None

abbrev pub times_of : Text → Option Times
times_of text =
    if position_or_len is_comma text == length text then None
    else both_sides (side_of (before_first is_comma text)) (side_of (after_first is_comma text))
