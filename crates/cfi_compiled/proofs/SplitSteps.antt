-- Where searches by halving stand.
use Rattle.std.proofs.Common.{◌≡◌, ℕ, ◌+◌, ◌<◌, ◌≤◌, List, length, get_or}
use Rattle.cfi_compiled.specs.declared.step_list.NumberedStep.{NumberedStep}
use Rattle.cfi_compiled.specs.declared.paged_steps.PagedStep.{PagedStep}
use Rattle.cfi_compiled.specs.PagedSteps.{step_offset}

-- the steps before `low` are at or below the address, those from `high` on above it
pub record AreSplit (steps : List NumberedStep) (a low high : ℕ) : Type 0 where
  pub order : low ≤ high
  pub inside : high ≤ length steps
  pub from : (j : ℕ) (d : NumberedStep) → j + 1 ≡ low → (get_or steps j d).start ≤ a
  pub up_to : (j : ℕ) (d : NumberedStep) → j ≡ high → j < length steps → a < (get_or steps j d).start

-- the same of offsets, from the step `begin` up to `end`
pub record AreSplitIn (steps : List PagedStep) (begin end offset low high : ℕ) : Type 0 where
  pub first : begin ≤ low
  pub order : low ≤ high
  pub last : high ≤ end
  pub from : (j : ℕ) (d : PagedStep) → j + 1 ≡ low → begin < low → step_offset (get_or steps j d) ≤ offset
  pub up_to : (d : PagedStep) → high < end → offset < step_offset (get_or steps high d)

-- the pages before `low` end at or before the step, that at `high` above it
pub record ArePassed (ends : List ℕ) (k low high : ℕ) : Type 0 where
  pub order : low ≤ high
  pub inside : high ≤ length ends
  pub passed : (p : ℕ) → p < low → get_or ends p 0 ≤ k
  pub above : high < length ends → k < get_or ends high 0
