-- Steps in turn.
use Rattle.std.specs.Prelude.{ℕ, ◌+◌, List, [], ◌∷◌, Result, Ok}
use Rattle.cfi_elf.specs.Results.{and_then}

-- what a step for each thing and its index makes of a state, or the first error
abbrev pub in_order :
    {A S E : Type 0} → (ℕ → A → S → Result S E) → ℕ → List A → S → Result S E
in_order step index [] state = Ok state
in_order step index (x ∷ xs) state = and_then (step index x state) (in_order step (index + 1) xs)
