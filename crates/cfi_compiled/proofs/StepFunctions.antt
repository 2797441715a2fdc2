-- What a step function answers after one step more, and which step decides.
use Rattle.std.proofs.Common.{◌≡◌, ℕ, zero, suc, ◌+◌, ◌<◌, ◌≤◌, cond, List, [], ◌∷◌, ◌++◌, length, get_or, ltb, Result, refl, ap, ◌∙◌, arith}
use Rattle.std.proofs.lemmas.Bool.{lt-ltb, le-ltb}
use Rattle.cfi_read_core.specs.declared.error.Error.{Error}
use Rattle.cfi_compiled.specs.FrameParts.{FrameParts}
use Rattle.cfi_compiled.specs.Steps.{Step, frame_after, Rise, free_from}

-- ---- one step more

pub below_more : (steps : List Step) (low : ℕ) (before : Result FrameParts Error) (step : Step) (a : ℕ) → free_from low steps ≤ step.start → Rise low steps → a < step.start →
    frame_after before (steps ++ step ∷ []) a ≡ frame_after before steps a
below_more [] low before step a free rise below = ap (λ b. cond b before step.frame) (lt-ltb a step.start below)
below_more (first ∷ steps) low before step a free rise below =
    ap (λ x. cond (ltb a first.start) before x) (below_more steps (first.start + 1) first.frame step a free rise.1 below)

-- each step is below the address where the next one may be
pub free_above : (steps : List Step) (low : ℕ) → Rise low steps → low ≤ free_from low steps
free_above [] low rise = omega arith
free_above (first ∷ steps) low rise = let rest = free_above steps (first.start + 1) rise.1 in omega (arith, rest, rise.0)

pub from_more : (steps : List Step) (low : ℕ) (before : Result FrameParts Error) (step : Step) (a : ℕ) → free_from low steps ≤ step.start → Rise low steps → step.start ≤ a →
    frame_after before (steps ++ step ∷ []) a ≡ step.frame
from_more [] low before step a free rise from = ap (λ b. cond b before step.frame) (le-ltb a step.start from)
from_more (first ∷ steps) low before step a free rise from =
    let up = free_above steps (first.start + 1) rise.1 in
    let passed : first.start ≤ a = omega (arith, up, free, from) in
    ap (λ b. cond b before (frame_after first.frame (steps ++ step ∷ []) a)) (le-ltb a first.start passed)
    ∙ from_more steps (first.start + 1) first.frame step a free rise.1 from

pub rise_more : (steps : List Step) (low : ℕ) (step : Step) → free_from low steps ≤ step.start → Rise low steps → Rise low (steps ++ step ∷ [])
rise_more [] low step free rise = (free, tt)
rise_more (first ∷ steps) low step free rise = (rise.0, rise_more steps (first.start + 1) step free rise.1)

pub free_more : (steps : List Step) (low : ℕ) (step : Step) → free_from low (steps ++ step ∷ []) ≡ step.start + 1
free_more [] low step = refl
free_more (first ∷ steps) low step = free_more steps (first.start + 1) step

-- ---- the step that decides

-- a step at or below the address, where the next one is above it or there is none, gives the answer
pub answered_at : (steps : List Step) (low : ℕ) (before : Result FrameParts Error) (a k : ℕ) (d : Step) → Rise low steps → k < length steps → (get_or steps k d).start ≤ a →
    ((j : ℕ) → j ≡ k + 1 → j < length steps → a < (get_or steps j d).start) → frame_after before steps a ≡ (get_or steps k d).frame
answered_at [] low before a k d rise inside from next = absurd (omega arith)
answered_at (first ∷ []) low before a zero d rise inside from next = ap (λ b. cond b before first.frame) (le-ltb a first.start from)
answered_at (first ∷ second ∷ steps) low before a zero d rise inside from next =
    let above : a < second.start = next 1 (omega arith) (omega arith) in
    ap (λ b. cond b before (frame_after first.frame (second ∷ steps) a)) (le-ltb a first.start from)
    ∙ ap (λ b. cond b first.frame (frame_after second.frame steps a)) (lt-ltb a second.start above)
answered_at (first ∷ steps) low before a (suc k) d rise inside from next =
    let up = below_step steps (first.start + 1) a k d rise.1 (omega arith) from in
    let passed : first.start ≤ a = omega (arith, up) in
    ap (λ b. cond b before (frame_after first.frame steps a)) (le-ltb a first.start passed)
    ∙ answered_at steps (first.start + 1) first.frame a k d rise.1 (omega arith) from (λ j is more. next (suc j) (omega arith) (omega arith))
  where
    below_step : (steps : List Step) (low a k : ℕ) (d : Step) → Rise low steps → k < length steps → (get_or steps k d).start ≤ a → low ≤ a
    below_step [] low a k d rise inside from = absurd (omega arith)
    below_step (first ∷ steps) low a zero d rise inside from = omega (arith, rise.0)
    below_step (first ∷ steps) low a (suc k) d rise inside from =
        let rest = below_step steps (first.start + 1) a k d rise.1 (omega arith) from in omega (arith, rest, rise.0)

-- where the first step is above the address, or there is none
pub answered_before : (steps : List Step) (before : Result FrameParts Error) (a : ℕ) → ((d : Step) → 0 < length steps → a < (get_or steps 0 d).start) → frame_after before steps a ≡ before
answered_before [] before a above = refl
answered_before (first ∷ steps) before a above = ap (λ b. cond b before (frame_after first.frame steps a)) (lt-ltb a first.start (above first (omega arith)))

-- ---- the last step

below_free : (steps : List Step) (low k : ℕ) (d : Step) → Rise low steps → k < length steps → (get_or steps k d).start < free_from low steps
below_free [] low k d rise inside = absurd (omega arith)
below_free (first ∷ steps) low zero d rise inside = let up = free_above steps (first.start + 1) rise.1 in omega (arith, up)
below_free (first ∷ steps) low (suc k) d rise inside = below_free steps (first.start + 1) k d rise.1 (omega (arith, inside))

-- from where the next step may be on, the last one decides
pub last_decides : (steps : List Step) (before : Result FrameParts Error) (a k : ℕ) (d : Step) → Rise 0 steps → k + 1 ≡ length steps → free_from 0 steps ≤ a → frame_after before steps a ≡ (get_or steps k d).frame
last_decides steps before a k d rise last free =
    let under = below_free steps 0 k d rise (omega (arith, last)) in
    answered_at steps 0 before a k d rise (omega (arith, last)) (omega (arith, under, free)) (λ j is more. absurd (omega (arith, is, more, last)))
