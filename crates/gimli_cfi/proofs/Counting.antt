-- Distinct numbers below their count are all numbers below it.
use Rattle.std.proofs.Common.{◌≡◌, ◌≤◌, ◌<◌, ℕ, true, false, List, [], ◌∷◌, length, arith, ⊎_elim}
use Rattle.std.specs.Prelude.{◌==◌}
use Rattle.std.specs.List.{AllByRecursion, IsDistinct, list_any}
use Rattle.std.proofs.lemmas.Bool.{cases_Bool, eqb-true}
use Rattle.std.proofs.lemmas.Map.Steps.{length-le_from_distinct_below}

-- a number that isn't there differs from each that is
absent : (k : ℕ) (rows : List ℕ) → list_any (λ r. k == r) rows ≡ false → AllByRecursion (λ r. (k == r) ≡ false) rows
absent k [] none = tt
absent k (row ∷ rows) none =
    ⊎_elim
    (λ (here : (k == row) ≡ true). absurd (let clash = rw here at none in cc))
    (λ (elsewhere : (k == row) ≡ false). (elsewhere, absent k rows (rw elsewhere at none)))
    (cases_Bool (k == row))

below_all : (n q : ℕ) (rows : List ℕ) → AllByRecursion (λ r. r < n) rows → list_any (λ r. q == r) rows ≡ true → q < n
below_all n q [] below there = absurd (cc)
below_all n q (row ∷ rows) below there =
    ⊎_elim
    (λ (here : (q == row) ≡ true). let same : q ≡ row = eqb-true _ _ here in omega (arith, below.0))
    (λ (elsewhere : (q == row) ≡ false). below_all n q rows below.1 (rw elsewhere at there))
    (cases_Bool (q == row))

-- so many distinct numbers below n
pub at_most_count : (rows : List ℕ) (n : ℕ) → IsDistinct (λ a b. a == b) rows → AllByRecursion (λ r. r < n) rows → length rows ≤ n
at_most_count rows n distinct below = length-le_from_distinct_below rows n distinct (λ q there. below_all n q rows below there)

-- n distinct numbers below n are all of them
pub all_of_count : (rows : List ℕ) (n k : ℕ) → IsDistinct (λ a b. a == b) rows → AllByRecursion (λ r. r < n) rows → length rows ≡ n → k < n → list_any (λ r. k == r) rows ≡ true
unfolding IsDistinct
all_of_count rows n k distinct below many inside =
    ⊎_elim
    (λ (there : list_any (λ r. k == r) rows ≡ true). there)
    (λ (none : list_any (λ r. k == r) rows ≡ false).
    let more : length (k ∷ rows) ≤ n = at_most_count (k ∷ rows) n (absent k rows none, distinct) (inside, below) in
    absurd (omega (arith, many, more)))
    (cases_Bool (list_any (λ r. k == r) rows))
