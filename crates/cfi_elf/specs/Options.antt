-- What there is, or something else; what a number stands for by a table.
use Rattle.std.specs.Prelude.{ℕ, ◌==◌, if◌then◌else◌, List, [], ◌∷◌, Option, Some, None}
use Rattle.std.specs.List.{push}

-- the first that there is
abbrev pub or_else : {A : Type 0} → Option A → Option A → Option A
or_else (Some x) other = Some x
or_else None other = other

-- this, where there is nothing
abbrev pub or_this : {A : Type 0} → A → Option A → A
or_this other (Some x) = x
or_this other None = other

-- what a number stands for by a table
abbrev pub meaning : {A : Type 0} → List (ℕ × A) → ℕ → Option A
meaning [] n = None
meaning (row ∷ rows) n = if row.0 == n then Some row.1 else meaning rows n

-- with one more at the end, where there is one
abbrev pub with_more : {A : Type 0} → List A → Option A → List A
with_more xs None = xs
with_more xs (Some x) = push xs x
