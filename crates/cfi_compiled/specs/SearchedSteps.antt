-- What a search among numbered steps finds.
--     StartsAscend low steps      each step is above the one before it, the first at or above `low`
--     IsSplit steps a k      the step before the index k is at or below the address, and the one at
--         k above it
--     IsNumberAt steps a number      the number of a last step at or below the address; none where
--         there is none
--     IsStepAt steps k step      the step with the index k; none behind the last one
use Rattle.std.specs.Prelude.{◌≡◌, ℕ, ◌+◌, ◌<◌, ◌≤◌, List, [], ◌∷◌, length, get_or, Option, Some}
use Rattle.std.specs.Prelude.{None, ⊤}
use Rattle.cfi_compiled.specs.declared.step_list.NumberedStep.{NumberedStep}

abbrev pub StartsAscend : ℕ → List NumberedStep → Type 0
StartsAscend low [] = ⊤
StartsAscend low (step ∷ steps) = (low ≤ step.start) × StartsAscend (step.start + 1) steps

pub record IsSplit (steps : List NumberedStep) (a k : ℕ) : Type 0 where
  pub inside : k ≤ length steps
  pub from : (j : ℕ) (d : NumberedStep) → j + 1 ≡ k → (get_or steps j d).start ≤ a
  pub up_to : (j : ℕ) (d : NumberedStep) → j ≡ k → j < length steps → a < (get_or steps j d).start

abbrev pub IsNumberAt : List NumberedStep → ℕ → Option ℕ → Type 0
IsNumberAt steps a None = IsSplit steps a 0
IsNumberAt steps a (Some number) =
    (k : ℕ) × IsSplit steps a (k + 1) × ((d : NumberedStep) → (get_or steps k d).number ≡ number)

abbrev pub IsStepAt : List NumberedStep → ℕ → Option NumberedStep → Type 0
IsStepAt steps k None = length steps ≤ k
IsStepAt steps k (Some step) = (k < length steps) × ((d : NumberedStep) → get_or steps k d ≡ step)
