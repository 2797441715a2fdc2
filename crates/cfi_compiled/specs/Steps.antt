-- Results that change at few addresses.
--     Step      from an address on, up to the next step, the result is this
--     frame_by_steps      the result of the last step at or below an address, else
--         `NoUnwindInfoForAddress`
--     Rise low steps      each step is above the one before it, the first at or above `low`
--     free_from low steps      the least address above all steps
--     SameBelow, IsFrom, IsWithin      what is known of the results of addresses below one, from
--         one on, and between two
use Rattle.std.specs.Prelude.{◌≡◌, ℕ, ◌<◌, ◌≤◌, ◌+◌, List, [], ◌∷◌, nat_lt, if◌then◌else◌}
use Rattle.std.specs.Prelude.{Result, Err, ⊤}
use Rattle.cfi_read_core.specs.declared.error.Error.{Error}
use Rattle.cfi_read_core.specs.declared.error.Error.TheVariants.{NoUnwindInfoForAddress}
use Rattle.cfi_compiled.specs.FrameParts.{FrameParts}

pub record Step : Type 0 where
  pub start : ℕ
  pub frame : Result FrameParts Error

abbrev pub frame_after : Result FrameParts Error → List Step → ℕ → Result FrameParts Error
frame_after before [] address = before
frame_after before (step ∷ steps) address =
    if nat_lt address step.start then before else frame_after step.frame steps address

abbrev pub frame_by_steps : List Step → ℕ → Result FrameParts Error
frame_by_steps steps address = frame_after (Err NoUnwindInfoForAddress) steps address

abbrev pub Rise : ℕ → List Step → Type 0
Rise low [] = ⊤
Rise low (step ∷ steps) = (low ≤ step.start) × Rise (step.start + 1) steps

abbrev pub SameBelow : {X : Type 0} → ℕ → (ℕ → X) → (ℕ → X) → Type 0
SameBelow bound new old = (a : ℕ) → a < bound → new a ≡ old a

abbrev pub IsFrom : {X : Type 0} → ℕ → (ℕ → X) → X → Type 0
IsFrom start results result = (a : ℕ) → start ≤ a → results a ≡ result

abbrev pub IsWithin : {X : Type 0} → ℕ → ℕ → (ℕ → X) → (ℕ → X) → Type 0
IsWithin start end results due = (a : ℕ) → start ≤ a → a < end → results a ≡ due a

abbrev pub free_from : ℕ → List Step → ℕ
free_from low [] = low
free_from low (step ∷ steps) = free_from (step.start + 1) steps
