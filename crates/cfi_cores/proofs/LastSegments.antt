-- The last segment that begins at or below an address, found by halving.
use Rattle.std.proofs.Common.{◌≡◌, ℕ, zero, suc, ◌-◌, ◌<◌, ◌≤◌, Bool, true, false, List, [], ◌∷◌, length, get_or, map, Option, Some, None, nat_le, refl, ap, ◌∙◌, arith}
use Rattle.std.specs.List.{filter, last_or}
use Rattle.std.proofs.lemmas.Bool.{cond-true, cond-false}
use Rattle.cfi_cores.specs.declared.segments.CoreSegment.{CoreSegment as SegmentOfCode}
use Rattle.cfi_cores.specs.CoreSegments.{CoreSegment, last_up_to, segment_view}

module _ {X Y : Type 0} (view : X → Y) (p : Y → Bool) where
  none_pass : (xs : List X) (o : Option Y) → ((j : ℕ) (d : X) → j < length xs → p (view (get_or xs j d)) ≡ false) → last_or o (filter p (map view xs)) ≡ o
  none_pass [] o fails = refl
  none_pass (x ∷ xs) o fails =
      ap (last_or o) (cond-false (p (view x)) (view x ∷ filter p (map view xs)) (filter p (map view xs)) (fails 0 x (omega arith)))
      ∙ none_pass xs o (λ j d inside. fails (suc j) d (omega (arith, inside)))

  pub last_passes : (xs : List X) (k : ℕ) (o : Option Y) (x : X) → k < length xs →
      ((j : ℕ) (d : X) → j < suc k → j < length xs → p (view (get_or xs j d)) ≡ true) →
      ((j : ℕ) (d : X) → suc k ≤ j → j < length xs → p (view (get_or xs j d)) ≡ false) →
      last_or o (filter p (map view xs)) ≡ Some (view (get_or xs k x))
  last_passes [] k o x inside passes fails = absurd (omega arith)
  last_passes (y ∷ xs) zero o x inside passes fails =
      ap (last_or o) (cond-true (p (view y)) (view y ∷ filter p (map view xs)) (filter p (map view xs)) (passes 0 y (omega arith) (omega arith)))
      ∙ none_pass xs (Some (view y)) (λ j d here. fails (suc j) d (omega arith) (omega (arith, here)))
  last_passes (y ∷ xs) (suc k) o x inside passes fails =
      ap (last_or o) (cond-true (p (view y)) (view y ∷ filter p (map view xs)) (filter p (map view xs)) (passes 0 y (omega arith) (omega arith)))
      ∙ last_passes xs k (Some (view y)) x (omega (arith, inside))
      (λ j d less here. passes (suc j) d (omega (arith, less)) (omega (arith, here)))
      (λ j d up here. fails (suc j) d (omega (arith, up)) (omega (arith, here)))

-- ---- among segments of which the first k begin at or below an address, and the others above it

module _ (segments : List SegmentOfCode) (a k : ℕ)
    (upto : (j : ℕ) (d : SegmentOfCode) → j < k → j < length segments → nat_le (get_or segments j d).start a ≡ true)
    (behind : (j : ℕ) (d : SegmentOfCode) → k ≤ j → j < length segments → nat_le (get_or segments j d).start a ≡ false) where
  abbrev begins : CoreSegment → Bool
  begins s = nat_le s.start a

  pub none_begins : k ≡ 0 → last_up_to a (map segment_view segments) ≡ None
  none_begins none = none_pass segment_view begins segments None (λ j d inside. behind j d (omega (arith, none)) inside)

  pub last_begins : (x : SegmentOfCode) → 0 < k → k ≤ length segments → last_up_to a (map segment_view segments) ≡ Some (segment_view (get_or segments (k - 1) x))
  last_begins x some inside =
      last_passes segment_view begins segments (k - 1) None x (omega (arith, some, inside))
      (λ j d less here. upto j d (omega (arith, less, some)) here)
      (λ j d up here. behind j d (omega (arith, up, some)) here)
