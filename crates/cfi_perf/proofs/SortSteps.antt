-- The places of an index in the order of their times.
use Rattle.std.proofs.Common.{◌≡◌, ◌<◌, ◌+◌, ◌∙◌, ℕ, suc, Bool, true, false, List, [], ◌∷◌, Result, Ok, Err, refl, sym, ap, subst, length, map, arith, cond}
use Rattle.std.specs.Prelude.{filter, not, ◌&&◌}
use Rattle.std.specs.List.{All}
use Rattle.std.specs.List.Sorted.{IsPermutation, IsSortedByKey, IsStableByKey}
use Rattle.std.specs.Ordering.{nat_cmp, is_lt}
use Rattle.std.proofs.lemmas.List.{get_or-map, length-map}
use Rattle.std.proofs.lemmas.List.Sorted.{All-permutation}
use Rattle.std.proofs.lemmas.List.Elements.{All-cons}
use Rattle.cfi_perf.specs.declared.error.PerfError.{PerfError}
use Rattle.cfi_perf.specs.declared.index.PlaceKind.TheVariants.{Nothing}
use Rattle.cfi_perf.specs.declared.index.RecordPlace.{RecordPlace}
use Rattle.cfi_perf.specs.declared.windows.RecordWalk.{RecordWalk}
use Rattle.cfi_perf.specs.Events.{Event, OtherEvent, Record}
use Rattle.cfi_perf.specs.Indexes.{AreAt, IsRecordAt, IsInTimeOrder, record_in}

kept_or : {X Y : Type 0} (f : X → Y) (b : Bool) (x : X) (ys : List Y) (xs : List X) → ys ≡ map f xs → cond b (f x ∷ ys) ys ≡ map f (cond b (x ∷ xs) xs)
kept_or f true x ys xs is = ap (λ l. f x ∷ l) is
kept_or f false x ys xs is = is

filter_mapped : {X Y : Type 0} (f : X → Y) (t : Y → Bool) (xs : List X) → filter t (map f xs) ≡ map f (filter (λ x. t (f x)) xs)
filter_mapped f t [] = refl
filter_mapped f t (x ∷ xs) = kept_or f (t (f x)) x (filter t (map f xs)) (filter (λ x. t (f x)) xs) (filter_mapped f t xs)

-- what a record at a place says, and nothing where there is none
abbrev event_in : Result Record PerfError → Event
event_in (Ok r) = r.event
event_in (Err e) = OtherEvent

-- a place of this time
abbrev timed : Record → RecordPlace
timed r = record { time = r.time; offset = 0; size = 0; kind = Nothing }

module _ (walk : RecordWalk) (all kept : List ℕ) where
  abbrev found : RecordPlace → Record
  found place = record { time = place.time; event = event_in (record_in walk all kept place) }

  abbrev IsFound : RecordPlace → Type 0
  IsFound place = IsRecordAt walk all kept place (found place)

  is_found : (place : RecordPlace) (r : Record) → IsRecordAt walk all kept place r → found place ≡ r
  is_found place r (time, is, within) = λ i. record { time = time i; event = event_in (is i) }

  all_found : (places : List RecordPlace) (records : List Record) → AreAt walk all kept places records → All IsFound places × (records ≡ map found places)
  all_found [] records none = ((λ k d w. absurd (omega (arith, w))), none)
  all_found (place ∷ places) records (r, others, is, at, rest) =
      let so = all_found places others rest in
      let e = is_found place r at in
      let here : IsFound place = subst (λ (q : Record). IsRecordAt walk all kept place q) (sym e) at in
      (All-cons IsFound place places here so.0, is ∙ (ap (λ (q : Record). q ∷ others) (sym e) ∙ ap (λ (l : List Record). found place ∷ l) so.1))

  all_at : (places : List RecordPlace) → All IsFound places → AreAt walk all kept places (map found places)
  all_at [] fine = refl
  all_at (place ∷ places) fine = (found place, map found places, refl, fine 0 place (omega arith), all_at places (λ k d w. fine (suc k) d (omega (arith, w))))

  in_time : (places : List RecordPlace) → IsSortedByKey (λ p. p.time) nat_cmp places → IsSortedByKey (λ r. r.time) nat_cmp (map found places)
  in_time places sorted =
      λ k d low high.
      let inside : k + 1 < length places = omega (arith, high, length-map places found) in
      let later = get_or-map found places (k + 1) (timed d) d inside in
      let sooner = get_or-map found places k (timed d) d (omega (arith, inside)) in
      (λ i. is_lt (nat_cmp (later i).time (sooner i).time)) ∙ sorted k (timed d) low inside

  stays : (places sorted : List RecordPlace) → IsStableByKey (λ p. p.time) nat_cmp places sorted → IsStableByKey (λ r. r.time) nat_cmp (map found places) (map found sorted)
  stays places sorted stable =
      λ x.
      let t : Record → Bool = λ y. not (is_lt (nat_cmp x.time y.time)) && not (is_lt (nat_cmp y.time x.time)) in
      filter_mapped found t sorted ∙ (ap (λ (l : List RecordPlace). map found l) (stable (timed x)) ∙ sym (filter_mapped found t places))

  pub sorted_at : (places sorted : List RecordPlace) (records : List Record) → IsPermutation places sorted → IsSortedByKey (λ p. p.time) nat_cmp sorted → IsStableByKey (λ p. p.time) nat_cmp places sorted →
      AreAt walk all kept places records → (ordered : List Record) × AreAt walk all kept sorted ordered × IsInTimeOrder records ordered
  sorted_at places sorted records moved rises stable are =
      let so = all_found places records are in (
        map found sorted,
        all_at sorted (All-permutation IsFound places sorted moved so.0),
        record {
          by_time = in_time sorted rises;
          stable = subst (λ (l : List Record). IsStableByKey (λ r. r.time) nat_cmp l (map found sorted)) (sym so.1) (stays places sorted stable);
        },
      )
