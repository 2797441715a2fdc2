-- What a search in the page of an address finds.
use Rattle.std.proofs.Common.{◌≡◌, ℕ, zero, suc, ◌+◌, ◌*◌, ◌/◌, ◌%◌, ◌<◌, ◌≤◌, List, [], ◌∷◌, length, get_or, refl, sym, ap, subst, ◌∙◌, ⊎_elim, arith}
use Rattle.std.proofs.lemmas.Bool.{cases_lt}
use Rattle.std.proofs.lemmas.Nat.{div-add-mod'}
use Rattle.std.proofs.Math.ListN.{get_or-eq_default}
use Rattle.cfi_compiled.specs.declared.step_list.NumberedStep.{NumberedStep}
use Rattle.cfi_compiled.specs.declared.paged_steps.PagedStep.{PagedStep}
use Rattle.cfi_compiled.specs.CompiledTables.{EndsWith}
use Rattle.cfi_compiled.specs.PagedSteps.{IsPaged, IsSplitIn, begin_of, step_number, step_offset, pages_passed, view_of}
use Rattle.cfi_compiled.specs.SearchedSteps.{IsSplit}
use Rattle.cfi_compiled.proofs.PagedLists.{passed_up_to, passed_few, passed_at_least, paged_at, paged_length, unpaged}

other_default : (l : List ℕ) (i d : ℕ) → i < length l → get_or l i d ≡ get_or l i 0
other_default [] i d inside = absurd (omega arith)
other_default (x ∷ l) zero d inside = refl
other_default (x ∷ l) (suc i) d inside = other_default l i d (omega arith)

-- with no other step the first one is the last
pub lead_ends : (lead first : ℕ) (ends : List ℕ) (steps : List PagedStep) → length steps ≡ 0 → (number : ℕ) → lead ≡ number → EndsWith number (view_of lead first ends steps).steps
lead_ends lead first ends [] none number is = (record { start = 0; number = lead }, 0, refl, refl, is)
lead_ends lead first ends (step ∷ steps) none number is = absurd (omega (arith, none))

module _ (lead first : ℕ) (ends : List ℕ) (steps : List PagedStep) (paged : IsPaged first ends steps) where
  -- ---- where a page begins

  abbrev begin : ℕ → ℕ
  begin p = begin_of ends (length steps) p

  pub begins_inside : (p : ℕ) → begin p ≤ length steps
  begins_inside zero = omega arith
  begins_inside (suc p) =
      ⊎_elim
      (λ (less : p < length ends). let same = other_default ends p (length steps) less in let in_steps = paged.within p less in omega (arith, same, in_steps))
      (λ (all : length ends ≤ p). let same = get_or-eq_default ends (length steps) all in omega (arith, same))
      (cases_lt p (length ends))

  pub begins_in_order : (p : ℕ) → begin p ≤ begin (suc p)
  begins_in_order zero = omega arith
  begins_in_order (suc p) =
      ⊎_elim
      (λ (less : suc p < length ends).
      let here = other_default ends p (length steps) (omega arith) in
      let next = other_default ends (suc p) (length steps) less in
      let order = paged.rising p (suc p) (omega arith) less in
      omega (arith, here, next, order))
      (λ (all : length ends ≤ suc p). let same = get_or-eq_default ends (length steps) all in let in_steps = begins_inside (suc p) in omega (arith, same, in_steps))
      (cases_lt (suc p) (length ends))

  before_page : (p j : ℕ) → j + 1 ≡ begin p → pages_passed ends j + 1 ≤ p
  before_page zero j is = absurd (omega arith)
  before_page (suc p) j is =
      ⊎_elim
      (λ (less : p < length ends).
      let same = other_default ends p (length steps) less in
      let up = passed_up_to ends j p less (omega (arith, is, same)) in
      omega (arith, up))
      (λ (all : length ends ≤ p). let few = passed_few ends j in omega (arith, few))
      (cases_lt p (length ends))

  all_before : (p k : ℕ) → p < length ends → get_or ends p 0 ≤ k → p + 1 ≤ pages_passed ends k
  all_before p k less up_to =
      passed_at_least ends k (p + 1) (omega arith)
      (λ q before. let order = paged.rising q p (omega arith) less in omega (arith, order, up_to))

  behind_page : (p k : ℕ) → begin (suc p) ≤ k → k < length steps → p + 1 ≤ pages_passed ends k
  behind_page p k from inside =
      ⊎_elim
      (λ (less : p < length ends). let same = other_default ends p (length steps) less in all_before p k less (omega (arith, same, from)))
      (λ (all : length ends ≤ p). let same = get_or-eq_default ends (length steps) all in absurd (omega (arith, same, from, inside)))
      (cases_lt p (length ends))

  up_to_page : (p k : ℕ) → k < begin (suc p) → pages_passed ends k ≤ p
  up_to_page p k below =
      ⊎_elim
      (λ (less : p < length ends). let same = other_default ends p (length steps) less in passed_up_to ends k p less (omega (arith, same, below)))
      (λ (all : length ends ≤ p). let few = passed_few ends k in omega (arith, few))
      (cases_lt p (length ends))

  from_page : (p k : ℕ) → begin p ≤ k → k < length steps → p ≤ pages_passed ends k
  from_page zero k from inside = omega arith
  from_page (suc p) k from inside = let passed = behind_page p k from inside in omega (arith, passed)

  -- ---- the steps of a table

  abbrev all_steps : List NumberedStep
  all_steps = (view_of lead first ends steps).steps

  pub how_many : length all_steps ≡ length steps + 1
  how_many = let many = paged_length steps 0 first ends in omega (arith, many)

  pub step_after_first : (j : ℕ) (d : NumberedStep) (e : PagedStep) → j < length steps → get_or all_steps (suc j) d ≡ unpaged first ends j (get_or steps j e)
  step_after_first j d e inside =
      let same : 0 + j ≡ j = omega arith in
      paged_at steps 0 first ends j d e inside ∙ ap (λ n. unpaged first ends n (get_or steps j e)) same

  pub number_after_first : (j : ℕ) (d : NumberedStep) (e : PagedStep) → j < length steps → (get_or all_steps (suc j) d).number ≡ step_number (get_or steps j e)
  number_after_first j d e inside = ap (λ (s : NumberedStep). s.number) (step_after_first j d e inside)

  -- the last step is that with the last index
  pub last_ends : (i : ℕ) → i + 1 ≡ length steps → (e : PagedStep) (number : ℕ) → step_number (get_or steps i e) ≡ number → EndsWith number all_steps
  last_ends i last e number is =
      (unpaged first ends i (get_or steps i e), suc i, omega (arith, how_many, last), step_after_first i (unpaged first ends i (get_or steps i e)) e (omega (arith, last)), is)

  start_after_first : (j : ℕ) (d : NumberedStep) (e : PagedStep) → j < length steps → (get_or all_steps (suc j) d).start ≡ (first + pages_passed ends j) * 512 + step_offset (get_or steps j e)
  start_after_first j d e inside = ap (λ (s : NumberedStep). s.start) (step_after_first j d e inside)

  -- ---- before the first page

  abbrev nothing : PagedStep
  nothing = record { low = 0; middle = 0; high = 0 }

  pub split_before : (a : ℕ) → a / 512 < first → IsSplit all_steps a 1
  split_before a before = record {
    inside = omega (arith, how_many);
    from = λ j d is. let zero_is : j ≡ 0 = omega (arith, is) in subst (λ i. (get_or all_steps i d).start ≤ a) (sym zero_is) (omega arith);
    up_to = λ j d is less.
        let inside : 0 < length steps = omega (arith, how_many, is, less) in
        let start = start_after_first 0 d nothing inside in
        let whole = div-add-mod' a 512 in
        subst (λ i. a < (get_or all_steps i d).start) (sym is) (omega (arith, start, whole, before));
  }

  -- ---- in the page of the address

  module _ (a p : ℕ) (page : first + p ≡ a / 512) where
    whole : a / 512 * 512 + a % 512 ≡ a
    whole = div-add-mod' a 512

    above : (k : ℕ) (d : NumberedStep) → IsSplitIn steps (begin p) (begin (suc p)) (a % 512) k → k < length steps → a < (get_or all_steps (suc k) d).start
    above k d split inside =
        let start = start_after_first k d nothing inside in
        let rest : a % 512 < 512 = omega arith in
        ⊎_elim
        (λ (less : k < begin (suc p)).
        let low = from_page p k split.low inside in
        let high = up_to_page p k less in
        let offset = split.up_to nothing less in
        omega (arith, start, low, high, offset, whole, page))
        (λ (all : begin (suc p) ≤ k). let passed = behind_page p k all inside in omega (arith, start, passed, whole, page, rest))
        (cases_lt k (begin (suc p)))

    up_to_address : (k : ℕ) (d : NumberedStep) → IsSplitIn steps (begin p) (begin (suc p)) (a % 512) k → (get_or all_steps k d).start ≤ a
    up_to_address zero d split = omega arith
    up_to_address (suc i) d split =
        let in_steps = begins_inside (suc p) in
        let inside : i < length steps = omega (arith, split.high, in_steps) in
        let start = start_after_first i d nothing inside in
        ⊎_elim
        (λ (less : begin p < suc i).
        let low = from_page p i (omega arith) inside in
        let high = up_to_page p i (omega (arith, split.high)) in
        let offset = split.from i nothing (omega arith) less in
        omega (arith, start, low, high, offset, whole, page))
        (λ (all : suc i ≤ begin p).
        let passed = before_page p i (omega (arith, all, split.low)) in
        let offset = paged.offsets i nothing inside in
        omega (arith, start, passed, offset, whole, page))
        (cases_lt (begin p) (suc i))

    pub split_in : (k : ℕ) → IsSplitIn steps (begin p) (begin (suc p)) (a % 512) k → IsSplit all_steps a (k + 1)
    split_in k split = record {
      inside = let in_steps = begins_inside (suc p) in omega (arith, how_many, in_steps, split.high);
      from = λ j d is. let same : j ≡ k = omega (arith, is) in subst (λ i. (get_or all_steps i d).start ≤ a) (sym same) (up_to_address k d split);
      up_to = λ j d is less.
          let same : j ≡ suc k = omega (arith, is) in
          let inside : k < length steps = omega (arith, how_many, is, less) in
          subst (λ i. a < (get_or all_steps i d).start) (sym same) (above k d split inside);
    }
