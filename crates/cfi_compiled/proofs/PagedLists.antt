-- Steps in pages, as a list.
use Rattle.std.proofs.Common.{◌≡◌, ℕ, zero, suc, ◌+◌, ◌*◌, ◌<◌, ◌≤◌, List, [], ◌∷◌, ◌++◌, leb, length, get_or, refl, ap, ◌∙◌, ⊎_elim, arith}
use Rattle.std.specs.Prelude.{if◌then◌else◌}
use Rattle.std.proofs.lemmas.Bool.{le-leb, lt-leb, cases_lt}
use Rattle.cfi_compiled.specs.declared.step_list.NumberedStep.{NumberedStep}
use Rattle.cfi_compiled.specs.declared.paged_steps.PagedStep.{PagedStep}
use Rattle.cfi_compiled.specs.PagedSteps.{step_number, step_offset, pages_passed, paged_from}
use Rattle.cfi_compiled.proofs.SplitSteps.{ArePassed}

-- ---- pages that are passed

-- a page that ends above the step isn't passed, nor are those after it
pub passed_up_to : (ends : List ℕ) (k p : ℕ) → p < length ends → k < get_or ends p 0 → pages_passed ends k ≤ p
passed_up_to [] k p inside above = absurd (omega arith)
passed_up_to (end ∷ ends) k zero inside above = rw (lt-leb end k above) (omega arith)
passed_up_to (end ∷ ends) k (suc p) inside above =
    ⊎_elim
    (λ (less : k < end). rw (lt-leb end k less) (omega arith))
    (λ (most : end ≤ k). rw (le-leb end k most) (let rest = passed_up_to ends k p (omega arith) above in omega (arith, rest)))
    (cases_lt k end)

pub passed_few : (ends : List ℕ) (k : ℕ) → pages_passed ends k ≤ length ends
passed_few [] k = omega arith
passed_few (end ∷ ends) k =
    ⊎_elim
    (λ (less : k < end). rw (lt-leb end k less) (omega arith))
    (λ (most : end ≤ k). rw (le-leb end k most) (let rest = passed_few ends k in omega (arith, rest)))
    (cases_lt k end)

-- pages that end at or before the step are passed, where all before them are
pub passed_at_least : (ends : List ℕ) (k p : ℕ) → p ≤ length ends → ((q : ℕ) → q < p → get_or ends q 0 ≤ k) → p ≤ pages_passed ends k
passed_at_least ends k zero inside all = omega arith
passed_at_least [] k (suc p) inside all = absurd (omega arith)
passed_at_least (end ∷ ends) k (suc p) inside all =
    rw (le-leb end k (all 0 (omega arith)))
    (let rest = passed_at_least ends k p (omega arith) (λ q less. all (suc q) (omega arith)) in omega (arith, rest))

pub passed_all : (ends : List ℕ) (k : ℕ) → ((p : ℕ) → p < length ends → get_or ends p 0 ≤ k) → pages_passed ends k ≡ length ends
passed_all ends k all = let few = passed_few ends k in let least = passed_at_least ends k (length ends) (omega arith) all in omega (arith, few, least)

-- a page that ends above the step changes nothing
pub passed_more : (ends : List ℕ) (k end : ℕ) → k < end → pages_passed (ends ++ end ∷ []) k ≡ pages_passed ends k
passed_more [] k end above = rw (lt-leb end k above) refl
passed_more (first ∷ ends) k end above = ap (λ n. if leb first k then n + 1 else 0) (passed_more ends k end above)

-- ---- the steps

pub paged_length : (steps : List PagedStep) (k first : ℕ) (ends : List ℕ) → length (paged_from k first ends steps) ≡ length steps
paged_length [] k first ends = refl
paged_length (step ∷ steps) k first ends = ap suc (paged_length steps (k + 1) first ends)

abbrev pub unpaged : ℕ → List ℕ → ℕ → PagedStep → NumberedStep
unpaged first ends k step = record { start = (first + pages_passed ends k) * 512 + step_offset step; number = step_number step }

pub paged_at : (steps : List PagedStep) (k first : ℕ) (ends : List ℕ) (j : ℕ) (d : NumberedStep) (e : PagedStep) → j < length steps
    → get_or (paged_from k first ends steps) j d ≡ unpaged first ends (k + j) (get_or steps j e)
paged_at [] k first ends j d e inside = absurd (omega arith)
paged_at (step ∷ steps) k first ends zero d e inside =
    let same : k ≡ k + 0 = omega arith in
    ap (λ n. unpaged first ends n step) same
paged_at (step ∷ steps) k first ends (suc j) d e inside =
    let same : k + 1 + j ≡ k + suc j = omega arith in
    paged_at steps (k + 1) first ends j d e (omega arith) ∙ ap (λ n. unpaged first ends n (get_or steps j e)) same

-- one more page that ends behind the steps
pub paged_ends_more : (steps : List PagedStep) (k first : ℕ) (ends : List ℕ) (end : ℕ) → k + length steps ≤ end
    → paged_from k first (ends ++ end ∷ []) steps ≡ paged_from k first ends steps
paged_ends_more [] k first ends end above = refl
paged_ends_more (step ∷ steps) k first ends end above =
    ap (λ n. record { start = (first + n) * 512 + step_offset step; number = step_number step } ∷ paged_from (k + 1) first (ends ++ end ∷ []) steps) (passed_more ends k end (omega arith))
    ∙ ap (λ (l : List NumberedStep). unpaged first ends k step ∷ l) (paged_ends_more steps (k + 1) first ends end (omega (arith, above)))

-- one more step
pub paged_push : (steps : List PagedStep) (k first : ℕ) (ends : List ℕ) (step : PagedStep)
    → paged_from k first ends (steps ++ step ∷ []) ≡ paged_from k first ends steps ++ unpaged first ends (k + length steps) step ∷ []
paged_push [] k first ends step =
    let same : k ≡ k + 0 = omega arith in
    ap (λ n. unpaged first ends n step ∷ []) same
paged_push (other ∷ steps) k first ends step =
    let same : k + 1 + length steps ≡ k + suc (length steps) = omega arith in
    ap (λ (l : List NumberedStep). unpaged first ends k other ∷ l)
    (paged_push steps (k + 1) first ends step ∙ ap (λ n. paged_from (k + 1) first ends steps ++ unpaged first ends n step ∷ []) same)

-- ---- where a search ends

pub passed_is : (ends : List ℕ) (k low high : ℕ) → ArePassed ends k low high → high ≤ low → low ≡ pages_passed ends k
passed_is ends k low high split ends_here =
    let few = passed_few ends k in
    let least = passed_at_least ends k low (omega (arith, split.order, split.inside)) split.passed in
    ⊎_elim
    (λ (less : high < length ends). let up = passed_up_to ends k high less (split.above less) in omega (arith, up, least, split.order))
    (λ (all : length ends ≤ high). omega (arith, few, least, split.order, split.inside))
    (cases_lt high (length ends))
