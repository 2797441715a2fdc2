-- Which of several functions that begin at one address gives the name.
--     is_better f g      whether f gives a better name than g, as perf chooses: by the first of
--         these that isn't the same for both
--     best functions      one that no other is better than, the first of several
use Rattle.std.specs.Prelude.{ℕ, Bool, not, List, length, Option, Some, None, nat_lt, ◌==◌}
use Rattle.std.specs.Prelude.{if◌then◌else◌, position}
use Rattle.std.specs.List.{fold}
use Rattle.cfi_elf.specs.Options.{or_this}
use Rattle.cfi_elf.specs.Functions.{Function}

-- the smaller is better
abbrev pub decided : ℕ → ℕ → Bool → Bool
decided m n otherwise = if m == n then otherwise else nat_lt m n

-- a function with bytes before one without
abbrev pub bytes_order : Function → ℕ
bytes_order f = if f.size == 0 then 1 else 0

-- STB_GLOBAL is 1, STB_WEAK is 2
abbrev pub binding_order : Function → ℕ
binding_order f = if f.binding == 1 then 0 else if f.binding == 2 then 2 else 1

-- those that a name begins with (95)
abbrev pub underscores : List ℕ → ℕ
underscores name = or_this (length name) (position (λ c. not (c == 95)) name)

-- at the end the longer name
abbrev pub is_better : Function → Function → Bool
is_better f g =
    decided (bytes_order f) (bytes_order g)
    (decided (binding_order f) (binding_order g)
    (decided (underscores f.name) (underscores g.name) (nat_lt (length g.name) (length f.name))))

abbrev pub better_of : Option Function → Function → Function
better_of None f = f
better_of (Some g) f = if is_better f g then f else g

abbrev pub best : List Function → Option Function
best functions = fold (λ found f. Some (better_of found f)) None functions
