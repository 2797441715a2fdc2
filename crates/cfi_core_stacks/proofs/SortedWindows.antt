-- Segments by rising addresses, for any list of them.
use Rattle.std.proofs.Common.{◌≡◌, ◌∙◌, ◌<◌, ◌≤◌, ◌+◌, ◌&&◌, ℕ, zero, suc, Bool, true, false, true≢false, not, List, [], ◌∷◌, length, map, cond, get_or, refl, ap, arith, nat_le}
use borrow.Author.Tests.{leb-true}
use Rattle.std.proofs.lemmas.Bool.Decides.{nat_tests}
use Rattle.std.proofs.lemmas.Map.Keys.{ge_from_not_lt}
use Rattle.std.specs.Cmp.{ranks}
use Rattle.std.specs.List.{filter}
use Rattle.std.specs.List.Sorted.{IsSortedByKey, IsStableByKey, ties}
use Rattle.std.specs.Ordering.{MatchOrdering, is_lt, nat_cmp}
use Rattle.std.specs.declared.cmp.Ordering.{Ordering}
use Rattle.std.specs.declared.cmp.Ordering.TheVariants.{Less, Equal, Greater}
use Rattle.cfi_cores.specs.declared.segments.CoreSegment.{CoreSegment as SegmentOfCode}
use Rattle.cfi_cores.specs.CoreSegments.{AreSortedByAddress, CoreSegment, segment_view}

both : (a b : Bool) → (a && b) ≡ true → (a ≡ true) × (b ≡ true)
both true b is = (refl, is)
both false b is = absurd (cc)

not_true : (a : Bool) → not a ≡ true → a ≡ false
not_true false is = refl
not_true true is = absurd (cc)

not_less : (x y : ℕ) (o : Ordering) → MatchOrdering o (x < y) (x ≡ y) (y < x) → y ≤ x → is_lt o ≡ false
not_less x y Less below le = absurd (omega (arith, below, le))
not_less x y Equal same le = refl
not_less x y Greater above le = refl

swapped : {X : Type 0} (a b : Bool) (x y : X) (xs : List X) → (a ≡ true → b ≡ false)
    → cond b (y ∷ cond a (x ∷ xs) xs) (cond a (x ∷ xs) xs) ≡ cond a (x ∷ cond b (y ∷ xs) xs) (cond b (y ∷ xs) xs)
swapped true true x y xs apart = absurd (true≢false (apart refl))
swapped true false x y xs apart = refl
swapped false b x y xs apart = refl

module _ {X : Type 0} (k : X → ℕ) where
  abbrev Rising : ℕ → List X → Type 0
  Rising low [] = Unit {0}
  Rising low (x ∷ xs) = (low ≤ k x) × Rising (k x) xs

  abbrev put : X → List X → List X
  put x [] = x ∷ []
  put x (y ∷ ys) = cond (nat_le (k x) (k y)) (x ∷ y ∷ ys) (y ∷ put x ys)

  abbrev pub sorted : List X → List X
  sorted [] = []
  sorted (x ∷ xs) = put x (sorted xs)

  put_rises : (low : ℕ) (x : X) (ys : List X) → low ≤ k x → Rising low ys → Rising low (put x ys)
  put_rises low x [] le rises = (le, tt)
  put_rises low x (y ∷ ys) le (first, others) = by (nat_le (k x) (k y)) refl (λ below. put_rises (k y) x ys below others)
    where
      by : (b : Bool) → nat_le (k x) (k y) ≡ b → (k y ≤ k x → Rising (k y) (put x ys)) → Rising low (cond b (x ∷ y ∷ ys) (y ∷ put x ys))
      by true is rest = (le, (leb-true (k x) (k y) is, others))
      by false is rest = let below : k y ≤ k x = grind (arith, nat_tests, is) in (first, rest below)

  all_rise : (xs : List X) → Rising 0 (sorted xs)
  all_rise [] = tt
  all_rise (x ∷ xs) = put_rises 0 x (sorted xs) (omega arith) (all_rise xs)

  rises_at : (low : ℕ) (xs : List X) → Rising low xs → (i : ℕ) (d : X) → suc i < length xs → k (get_or xs i d) ≤ k (get_or xs (suc i) d)
  rises_at low [] rises i d inside = absurd (omega (arith, inside))
  rises_at low (x ∷ []) rises i d inside = absurd (omega (arith, inside))
  rises_at low (x ∷ y ∷ ys) (first, (second, others)) zero d inside = second
  rises_at low (x ∷ y ∷ ys) (first, others) (suc i) d inside = rises_at (k x) (y ∷ ys) others i d (omega (arith, inside))

  pub sorted_by : (xs : List X) → IsSortedByKey k nat_cmp (sorted xs)
  sorted_by xs = λ i d within inside.
      let next : i + 1 ≡ suc i = omega arith in
      let less : suc i < length (sorted xs) = omega (arith, inside) in
      let rises = rises_at 0 (sorted xs) (all_rise xs) i d less in
      rw next (not_less (k (get_or (sorted xs) (suc i) d)) (k (get_or (sorted xs) i d)) (nat_cmp (k (get_or (sorted xs) (suc i) d)) (k (get_or (sorted xs) i d))) (ranks (k (get_or (sorted xs) (suc i) d)) (k (get_or (sorted xs) i d))) rises)

  tied : (x y : X) → ties (λ x y. is_lt (nat_cmp (k x) (k y))) x y ≡ true → k x ≡ k y
  tied x y is =
      let (first, second) = both (not (is_lt (nat_cmp (k x) (k y)))) _ is in
      let above = ge_from_not_lt (k x) (k y) (not_true _ first) in
      let below = ge_from_not_lt (k y) (k x) (not_true _ second) in
      omega (arith, above, below)

  kept : (p : X → Bool) (x : X) (ys : List X) → ((y : X) → k y < k x → p x ≡ true → p y ≡ false) → filter p (put x ys) ≡ filter p (x ∷ ys)
  kept p x [] apart = refl
  kept p x (y ∷ ys) apart = by (nat_le (k x) (k y)) refl (kept p x ys apart)
    where
      by : (b : Bool) → nat_le (k x) (k y) ≡ b → filter p (put x ys) ≡ filter p (x ∷ ys) → filter p (cond b (x ∷ y ∷ ys) (y ∷ put x ys)) ≡ filter p (x ∷ y ∷ ys)
      by true is rest = refl
      by false is rest =
          let below : k y < k x = grind (arith, nat_tests, is) in
          ap (λ (xs : List X). cond (p y) (y ∷ xs) xs) rest ∙ swapped (p x) (p y) x y (filter p ys) (apart y below)

  pub stable_by : (xs : List X) → IsStableByKey k nat_cmp xs (sorted xs)
  stable_by [] = λ x. refl
  stable_by (y ∷ xs) = λ x.
      let p = ties (λ x y. is_lt (nat_cmp (k x) (k y))) x in
      kept p y (sorted xs) (λ z below tie. by x y z below tie) ∙ ap (λ (ys : List X). cond (p y) (y ∷ ys) ys) (stable_by xs x)
    where
      falls : (b : Bool) → (b ≡ true → ⊥) → b ≡ false
      falls true none = absurd (none refl)
      falls false none = refl

      by : (x y z : X) → k z < k y → ties (λ x y. is_lt (nat_cmp (k x) (k y))) x y ≡ true → ties (λ x y. is_lt (nat_cmp (k x) (k y))) x z ≡ false
      by x y z below tie = falls _ (λ other. let one = tied x y tie in let two = tied x z other in absurd (omega (arith, below, one, two)))

-- ---- segments

abbrev of_code : CoreSegment → SegmentOfCode
of_code s = record { start = s.start; bytes = record { ref_ptr = (0, 0); now = s.bytes }; is_executable = s.is_executable }

viewed : (found : List CoreSegment) → map segment_view (map of_code found) ≡ found
viewed [] = refl
viewed (s ∷ found) = ap (λ (others : List CoreSegment). s ∷ others) (viewed found)

-- there are these segments in the order of their addresses
pub windows_of : List CoreSegment → List CoreSegment
windows_of found = map segment_view (sorted (λ (s : SegmentOfCode). s.start) (map of_code found))

pub windows_sorted : (found : List CoreSegment) → AreSortedByAddress found (windows_of found)
unfolding windows_of
windows_sorted found = record {
  read = map of_code found;
  ordered = sorted (λ (s : SegmentOfCode). s.start) (map of_code found);
  are = viewed found;
  by_start = sorted_by (λ (s : SegmentOfCode). s.start) (map of_code found);
  stable = stable_by (λ (s : SegmentOfCode). s.start) (map of_code found);
  view = refl;
}
