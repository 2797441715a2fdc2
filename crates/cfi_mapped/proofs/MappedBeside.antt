-- What lies beside a new mapping stays where it is in the list.
use Rattle.std.proofs.Common.{◌≡◌, ℕ, zero, suc, ◌<◌, ◌≤◌, ◌++◌, List, [], ◌∷◌, Option, drop, length, take, get_or, nat_le, nat_lt, true, false, refl, sym, ap, ◌∙◌, ⊎_elim, append_assoc, append-nil, arith}
use Rattle.std.specs.Bool.{⊤}
use Rattle.std.specs.List.{AllWithin, cons_option, filter_map, slice_range, splice}
use Rattle.std.proofs.lemmas.Bool.{cases_lt, leb-true, ltb-false}
use Rattle.std.proofs.lemmas.List.{take-append-drop}
use Rattle.std.proofs.lemmas.List.Elements.{filter_map-append}
use Rattle.std.proofs.lemmas.List.Folds.{drop_split}
use Rattle.cfi_mapped.specs.declared.mappings.MappedCode.{MappedCode}
use Rattle.cfi_mapped.specs.Mappings.{AreMappedInOrder, mapped_over, part_below, part_from}
use Rattle.cfi_mapped.proofs.MappedOver.{by_below, by_from, over_is}

-- ---- which have no part there, and which are whole there

abbrev pub EndsBy : ℕ → MappedCode → Type 0
EndsBy limit m = (m.end ≤ limit) × (m.start < m.end)

abbrev pub BeginsFrom : ℕ → MappedCode → Type 0
BeginsFrom limit m = (limit ≤ m.start) × (m.start < m.end)

abbrev pub Each : (MappedCode → Type 0) → List MappedCode → Type 0
Each P [] = ⊤
Each P (m ∷ list) = P m × Each P list

all_below : (limit : ℕ) (list : List MappedCode) → Each (EndsBy limit) list → filter_map (part_below limit) list ≡ list
all_below limit [] ends = refl
all_below limit (m ∷ list) (first, others) =
    by_below (λ (part : Option MappedCode). cons_option part (filter_map (part_below limit) list) ≡ m ∷ list) limit m
    (λ later. absurd (omega (arith, later, first.0, first.1)))
    (λ begins ends. ap (λ (l : List MappedCode). m ∷ l) (all_below limit list others))
    (λ begins more. absurd (omega (arith, more, first.0)))

none_below : (limit high : ℕ) (list : List MappedCode) → limit ≤ high → Each (BeginsFrom high) list → filter_map (part_below limit) list ≡ []
none_below limit high [] le begin = refl
none_below limit high (m ∷ list) le (first, others) =
    by_below (λ (part : Option MappedCode). cons_option part (filter_map (part_below limit) list) ≡ []) limit m
    (λ later. none_below limit high list le others)
    (λ begins ends. absurd (omega (arith, begins, le, first.0)))
    (λ begins more. absurd (omega (arith, begins, le, first.0)))

none_from : (low limit : ℕ) (list : List MappedCode) → low ≤ limit → Each (EndsBy low) list → filter_map (part_from limit) list ≡ []
none_from low limit [] le ends = refl
none_from low limit (m ∷ list) le (first, others) =
    by_from (λ (part : Option MappedCode). cons_option part (filter_map (part_from limit) list) ≡ []) limit m
    (λ ends. none_from low limit list le others)
    (λ more later. absurd (omega (arith, more, le, first.0)))
    (λ more begins. absurd (omega (arith, more, le, first.0)))

all_from : (limit : ℕ) (list : List MappedCode) → Each (BeginsFrom limit) list → filter_map (part_from limit) list ≡ list
all_from limit [] begin = refl
all_from limit (m ∷ list) (first, others) =
    by_from (λ (part : Option MappedCode). cons_option part (filter_map (part_from limit) list) ≡ m ∷ list) limit m
    (λ ends. absurd (omega (arith, ends, first.0, first.1)))
    (λ more later. ap (λ (l : List MappedCode). m ∷ l) (all_from limit list others))
    (λ more begins. absurd (omega (arith, begins, first.0)))

-- ---- a new mapping between them

module _ (new : MappedCode) (bytes : new.start < new.end) (front there behind : List MappedCode) (ends : Each (EndsBy new.start) front) (begin : Each (BeginsFrom new.end) behind) where
  abbrev all : List MappedCode
  all = front ++ (there ++ behind)

  below_is : filter_map (part_below new.start) all ≡ front ++ filter_map (part_below new.start) there
  below_is =
      filter_map-append (part_below new.start) front (there ++ behind)
      ∙ ap (λ l. l ++ filter_map (part_below new.start) (there ++ behind)) (all_below new.start front ends)
      ∙ ap (λ l. front ++ l) (filter_map-append (part_below new.start) there behind
      ∙ ap (λ l. filter_map (part_below new.start) there ++ l) (none_below new.start new.end behind (omega (arith, bytes)) begin)
      ∙ append-nil (filter_map (part_below new.start) there))

  from_is : filter_map (part_from new.end) all ≡ filter_map (part_from new.end) there ++ behind
  from_is =
      filter_map-append (part_from new.end) front (there ++ behind)
      ∙ ap (λ l. l ++ filter_map (part_from new.end) (there ++ behind)) (none_from new.start new.end front (omega (arith, bytes)) ends)
      ∙ filter_map-append (part_from new.end) there behind
      ∙ ap (λ l. filter_map (part_from new.end) there ++ l) (all_from new.end behind begin)

  over_between : front ++ (mapped_over new there ++ behind) ≡ mapped_over new all
  over_between =
      let kept = filter_map (part_below new.start) there in
      let above = filter_map (part_from new.end) there in
      ap (λ l. front ++ (l ++ behind)) (over_is new there bytes)
      ∙ ap (λ l. front ++ l) (append_assoc kept (new ∷ above) behind)
      ∙ sym (append_assoc front kept (new ∷ (above ++ behind)))
      ∙ ap (λ l. l ++ new ∷ (above ++ behind)) (sym below_is)
      ∙ ap (λ l. filter_map (part_below new.start) all ++ new ∷ l) (sym from_is)
      ∙ sym (over_is new all bytes)

-- ---- by the places between which it lies

all_front : (P : MappedCode → Type 0) (list : List MappedCode) (i : ℕ) → i ≤ length list → AllWithin P list 0 i → Each P (take i list)
all_front P list zero le are = tt
all_front P [] (suc i) le are = absurd (omega (arith, le))
all_front P (m ∷ list) (suc i) le are =
    (are 0 m (omega arith) (omega arith), all_front P list i (omega (arith, le)) (λ k d low high. are (suc k) d (omega arith) (omega (arith, high))))

all_behind : (P : MappedCode → Type 0) (list : List MappedCode) (i : ℕ) → AllWithin P list i (length list) → Each P (drop i list)
all_behind P [] zero are = tt
all_behind P [] (suc i) are = tt
all_behind P (m ∷ list) zero are =
    (are 0 m (omega arith) (omega arith), all_behind P list 0 (λ k d low high. are (suc k) d (omega arith) (omega (arith, high))))
all_behind P (m ∷ list) (suc i) are = all_behind P list i (λ k d low high. are (suc k) d (omega (arith, low)) (omega (arith, high)))

have_bytes : (low : ℕ) (list : List MappedCode) → AreMappedInOrder low list → (k : ℕ) (d : MappedCode) → k < length list → (get_or list k d).start < (get_or list k d).end
have_bytes low [] order k d inside = absurd (omega (arith, inside))
have_bytes low (m ∷ list) order zero d inside = order.1
have_bytes low (m ∷ list) order (suc k) d inside = have_bytes m.end list order.2 k d (omega (arith, inside))

-- in a list in order they begin and end ever higher
from_low : (low : ℕ) (list : List MappedCode) → AreMappedInOrder low list → (k : ℕ) (d : MappedCode) → k < length list → low ≤ (get_or list k d).start
from_low low [] order k d inside = absurd (omega (arith, inside))
from_low low (m ∷ list) order zero d inside = order.0
from_low low (m ∷ list) order (suc k) d inside = omega (arith, order.0, order.1, from_low m.end list order.2 k d (omega (arith, inside)))

pub starts_rise : (low : ℕ) (list : List MappedCode) → AreMappedInOrder low list → (i j : ℕ) (d : MappedCode) → i ≤ j → j < length list → (get_or list i d).start ≤ (get_or list j d).start
starts_rise low [] order i j d le inside = absurd (omega (arith, inside))
starts_rise low (m ∷ list) order zero zero d le inside = omega arith
starts_rise low (m ∷ list) order zero (suc j) d le inside = omega (arith, order.1, from_low m.end list order.2 j d (omega (arith, inside)))
starts_rise low (m ∷ list) order (suc i) zero d le inside = absurd (omega (arith, le))
starts_rise low (m ∷ list) order (suc i) (suc j) d le inside = starts_rise m.end list order.2 i j d (omega (arith, le)) (omega (arith, inside))

pub ends_rise : (low : ℕ) (list : List MappedCode) → AreMappedInOrder low list → (i j : ℕ) (d : MappedCode) → i ≤ j → j < length list → (get_or list i d).end ≤ (get_or list j d).end
ends_rise low [] order i j d le inside = absurd (omega (arith, inside))
ends_rise low (m ∷ list) order zero zero d le inside = omega arith
ends_rise low (m ∷ list) order zero (suc j) d le inside =
    omega (arith, from_low m.end list order.2 j d (omega (arith, inside)), have_bytes m.end list order.2 j d (omega (arith, inside)))
ends_rise low (m ∷ list) order (suc i) zero d le inside = absurd (omega (arith, le))
ends_rise low (m ∷ list) order (suc i) (suc j) d le inside = ends_rise m.end list order.2 i j d (omega (arith, le)) (omega (arith, inside))

module _ (new : MappedCode) (bytes : new.start < new.end) (list : List MappedCode) (order : AreMappedInOrder 0 list) (i j : ℕ) (inside : i ≤ length list)
    (ended : AllWithin (λ m. nat_le m.end new.start ≡ true) list 0 i) (later : AllWithin (λ m. nat_lt m.start new.end ≡ false) list j (length list)) where
  -- the first that begins above the new one isn't among those that end below it
  pub ends_first : i ≤ j
  ends_first = ⊎_elim
      (λ (less : j < i).
      let past : j < length list = omega (arith, less, inside) in
      let up = leb-true _ _ (ended j new (omega arith) less) in
      let high = ltb-false _ _ (later j new (omega arith) past) in
      absurd (omega (arith, bytes, up, high, have_bytes 0 list order j new past)))
      (λ (le : i ≤ j). le)
      (cases_lt j i)

  pub put_between : (there next : List MappedCode) → there ≡ mapped_over new (slice_range list i j) → next ≡ splice list i j there → next ≡ mapped_over new list
  put_between there next is put =
      let front : Each (EndsBy new.start) (take i list) = all_front (EndsBy new.start) list i inside (λ k d low high. (leb-true _ _ (ended k d low high), have_bytes 0 list order k d (omega (arith, high, inside)))) in
      let behind : Each (BeginsFrom new.end) (drop j list) = all_behind (BeginsFrom new.end) list j (λ k d low high. (ltb-false _ _ (later k d low high), have_bytes 0 list order k d high)) in
      put
      ∙ ap (λ l. take i list ++ (l ++ drop j list)) is
      ∙ over_between new bytes (take i list) (slice_range list i j) (drop j list) front behind
      ∙ ap (mapped_over new) (ap (λ l. take i list ++ l) (sym (drop_split list i j ends_first)) ∙ take-append-drop i list)
