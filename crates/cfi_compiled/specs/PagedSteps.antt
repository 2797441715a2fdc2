-- Steps in pages of 512 addresses.
--     step_offset, step_number step      the lower 9 bits of its three bytes, and the upper 15
--     pages_passed ends k      how many pages end at or before the step with the index k
--     paged_from k first ends steps      the steps from the index k on, of which the first page is
--         `first`
--     begin_of ends count page      where a page begins, of as many steps
--     IsSplitIn steps begin end offset k      of the steps from `begin` up to `end` the one before
--         the index k is at or below the offset, and the one at k above it
--     Rising ends      no page ends before the one before it
--     PagedView      the page of the last step, and all steps
--     IsPaged first ends steps      pages end in order, within the steps, and below 2^64; offsets
--         are of their pages
use Rattle.std.specs.Prelude.{◌≡◌, ℕ, zero, suc, ◌+◌, ◌*◌, ◌/◌, ◌%◌, ◌^◌, ◌<◌, ◌≤◌, List, [], ◌∷◌}
use Rattle.std.specs.Prelude.{nat_le, length}
use Rattle.std.specs.Prelude.{get_or}
use Rattle.std.specs.Prelude.{if◌then◌else◌}
use Rattle.std.specs.List.{All}
use Rattle.cfi_compiled.specs.declared.step_list.NumberedStep.{NumberedStep}
use Rattle.cfi_compiled.specs.declared.paged_steps.PagedStep.{PagedStep}

abbrev pub pages_passed : List ℕ → ℕ → ℕ
pages_passed [] k = 0
pages_passed (end ∷ ends) k = if nat_le end k then pages_passed ends k + 1 else 0

abbrev pub step_offset : PagedStep → ℕ
step_offset step = step.low + 256 * (step.middle % 2)

abbrev pub step_number : PagedStep → ℕ
step_number step = step.middle / 2 + 128 * step.high

abbrev pub paged_from : ℕ → ℕ → List ℕ → List PagedStep → List NumberedStep
paged_from k first ends [] = []
paged_from k first ends (step ∷ steps) =
    record {
      start = (first + pages_passed ends k) * 512 + step_offset step;
      number = step_number step;
    }
    ∷ paged_from (k + 1) first ends steps

abbrev pub begin_of : List ℕ → ℕ → ℕ → ℕ
begin_of ends count zero = 0
begin_of ends count (suc page) = get_or ends page count

pub record IsSplitIn (steps : List PagedStep) (begin end offset k : ℕ) : Type 0 where
  pub low : begin ≤ k
  pub high : k ≤ end
  pub from :
      (j : ℕ) (d : PagedStep) → j + 1 ≡ k → begin < k → step_offset (get_or steps j d) ≤ offset
  pub up_to : (d : PagedStep) → k < end → offset < step_offset (get_or steps k d)

abbrev pub Rising : List ℕ → Type 0
Rising ends = (p q : ℕ) → p ≤ q → q < length ends → get_or ends p 0 ≤ get_or ends q 0

-- the page of the last step, or of the first where there is none; and the steps, the first of which
-- is at 0
pub record PagedView : Type 0 where
  pub page : ℕ
  pub steps : List NumberedStep

abbrev pub view_of : ℕ → ℕ → List ℕ → List PagedStep → PagedView
view_of lead first ends steps = record {
  page = first + length ends;
  steps = record { start = 0; number = lead } ∷ paged_from 0 first ends steps;
}

pub record IsPaged (first : ℕ) (ends : List ℕ) (steps : List PagedStep) : Type 0 where
  pub rising : Rising ends
  pub within : (p : ℕ) → p < length ends → get_or ends p 0 ≤ length steps
  pub offsets : All (λ step. step_offset step < 512) steps
  pub below : first + length ends < 2 ^ 55
