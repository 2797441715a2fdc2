-- Items in the order of their addresses: the first that ends after an address is the only one that may have it.
use Rattle.std.proofs.Common.{◌≡◌, ℕ, zero, suc, ◌+◌, ◌<◌, ◌≤◌, ◌&&◌, ◌++◌, Bool, true, false, List, [], ◌∷◌, length, get_or, take, drop, nat_le, nat_lt, Some, None, refl, sym, ap, ◌∙◌, subst, ⊎_elim, arith, append_assoc, append-nil, drop-cons, take-append-drop, true≢false}
use Rattle.std.specs.Option.{option_and_then}
use Rattle.std.specs.List.{position, position_or_len, slice_get}
use Rattle.std.specs.List.Sorted.{IsNonDecreasingBy, IsPartitionedBy}
use Rattle.std.proofs.lemmas.Bool.{and_parts, and_from, and_left, and_right, le-leb, lt-leb, leb-true, lt-ltb, le-ltb, ltb-true, cases_lt, cond-true, cond-false}
use Rattle.std.proofs.lemmas.List.{take_more, get_or_default}
use Rattle.std.proofs.lemmas.List.Sorted.{IsPartitionedBy-leb}
use Rattle.std.proofs.lemmas.List.Sums.{position_or_len_is}
use Rattle.std.proofs.lemmas.Option.{slice_get-get_or}
use Rattle.cfi_step.specs.CodeRanges.{AreEndedBy}
use Rattle.cfi_step.specs.CodeRanges as ranges

-- ---- the first that passes a test

module _ {X : Type 0} (p : X → Bool) where
  none_passes : (xs : List X) → ((j : ℕ) (d : X) → j < length xs → p (get_or xs j d) ≡ false) → position p xs ≡ None
  none_passes [] fails = refl
  none_passes (x ∷ xs) fails =
      let n = length (x ∷ xs) in
      let first : position_or_len p (x ∷ xs) ≡ n = position_or_len_is p (x ∷ xs) n x (omega arith) (λ j h. fails j x h) (λ h. absurd (omega arith)) in
      cond-false (nat_lt (position_or_len p (x ∷ xs)) n) (Some (position_or_len p (x ∷ xs))) None (le-ltb (position_or_len p (x ∷ xs)) n (omega (arith, first)))

  first_passes : (xs : List X) (k : ℕ) (d : X) → k < length xs → ((j : ℕ) → j < k → p (get_or xs j d) ≡ false) → p (get_or xs k d) ≡ true → position p xs ≡ Some k
  first_passes xs k d inside fails passes =
      let first : position_or_len p xs ≡ k = position_or_len_is p xs k d (omega arith) fails (λ h. passes) in
      cond-true (nat_lt (position_or_len p xs) (length xs)) (Some (position_or_len p xs)) None (lt-ltb (position_or_len p xs) (length xs) (omega (arith, first, inside)))
      ∙ ap (λ (n : ℕ). Some n) first

-- ---- what the order says

module _ {A : Type 0} (start end : A → ℕ) where
  starts_from : (low : ℕ) (items : List A) → ranges.are_sorted start end low items ≡ true → (j : ℕ) (d : A) → j < length items →
      (low ≤ (start (get_or items j d))) × ((start (get_or items j d)) ≤ (end (get_or items j d)))
  starts_from low [] is j d inside = absurd (omega arith)
  starts_from low (m ∷ ms) is zero d inside =
      let begins = and_parts (nat_le low (start m)) (nat_le (start m) (end m)) (and_parts (ranges.begins_from start end low m) (ranges.are_sorted start end (end m) ms) is).0 in
      (leb-true low (start m) begins.0, leb-true (start m) (end m) begins.1)
  starts_from low (m ∷ ms) is (suc j) d inside =
      let begins = and_parts (nat_le low (start m)) (nat_le (start m) (end m)) (and_parts (ranges.begins_from start end low m) (ranges.are_sorted start end (end m) ms) is).0 in
      let above : low ≤ (start m) = leb-true low (start m) begins.0 in
      let forward : (start m) ≤ (end m) = leb-true (start m) (end m) begins.1 in
      let rest = starts_from (end m) ms (and_parts (ranges.begins_from start end low m) (ranges.are_sorted start end (end m) ms) is).1 j d (omega arith) in
      (omega (arith, above, forward, rest.0), rest.1)

  apart : (low : ℕ) (items : List A) → ranges.are_sorted start end low items ≡ true → (i j : ℕ) (d : A) → i < j → j < length items →
      (end (get_or items i d)) ≤ (start (get_or items j d))
  apart low [] is i j d less inside = absurd (omega arith)
  apart low (m ∷ ms) is i zero d less inside = absurd (omega arith)
  apart low (m ∷ ms) is zero (suc j) d less inside = (starts_from (end m) ms (and_parts (ranges.begins_from start end low m) (ranges.are_sorted start end (end m) ms) is).1 j d (omega arith)).0
  apart low (m ∷ ms) is (suc i) (suc j) d less inside = apart (end m) ms (and_parts (ranges.begins_from start end low m) (ranges.are_sorted start end (end m) ms) is).1 i j d (omega arith) (omega arith)

  ends_rise : (items : List A) → ranges.are_sorted start end 0 items ≡ true → IsNonDecreasingBy (λ (item : A). (end item)) items
  ends_rise items is i j d order inside = ⊎_elim
      (λ (less : i < j).
      let below = apart 0 items is i j d less inside in
      let forward = (starts_from 0 items is j d inside).1 in
      omega (arith, below, forward))
      (λ (not_less : j ≤ i).
      let same : i ≡ j = omega arith in
      subst (λ (k : ℕ). (end (get_or items i d)) ≤ (end (get_or items k d))) same (omega arith))
      (cases_lt i j)

  pub ended_are_first : (items : List A) (a : ℕ) → ranges.are_sorted start end 0 items ≡ true → IsPartitionedBy (λ (item : A). nat_le (end item) a) items
  ended_are_first items a is = IsPartitionedBy-leb (λ (item : A). (end item)) items a (ends_rise items is)

  pub in_one_at_most : (items : List A) (a : ℕ) → ranges.are_sorted start end 0 items ≡ true → ranges.IsInOneAtMost start end items a
  in_one_at_most items a is i j d inside_i inside_j has_i has_j = ⊎_elim
      (λ (less : i < j). absurd (not_both i j less inside_j has_i has_j))
      (λ (up : j ≤ i). ⊎_elim
      (λ (less : j < i). absurd (not_both j i less inside_i has_j has_i))
      (λ (down : i ≤ j). omega arith)
      (cases_lt j i))
      (cases_lt i j)
    where
      not_both : (i j : ℕ) → i < j → j < length items → ranges.has_code start end (get_or items i d) a ≡ true → ranges.has_code start end (get_or items j d) a ≡ true → ⊥
      not_both i j less inside has_i has_j =
          let order = apart 0 items is i j d less inside in
          let ends = ltb-true a (end (get_or items i d)) (and_parts (nat_le (start (get_or items i d)) a) (nat_lt a (end (get_or items i d))) has_i).1 in
          let begins = leb-true (start (get_or items j d)) a (and_parts (nat_le (start (get_or items j d)) a) (nat_lt a (end (get_or items j d))) has_j).0 in
          omega (arith, order, ends, begins)

  -- ---- the first that ends after an address

  module _ (items : List A) (a k : ℕ) (split : AreEndedBy end items a k) where
    ended_has_not : (j : ℕ) (d : A) → j < k → ranges.has_code start end (get_or items j d) a ≡ false
    ended_has_not j d less =
        and_right (nat_le (start (get_or items j d)) a) (nat_lt a (end (get_or items j d))) (le-ltb a (end (get_or items j d)) (split.ended j d less))

    at_has_not : (j : ℕ) (d : A) → a < (start (get_or items j d)) → ranges.has_code start end (get_or items j d) a ≡ false
    at_has_not j d later = and_left (nat_le (start (get_or items j d)) a) (nat_lt a (end (get_or items j d))) (lt-leb (start (get_or items j d)) a later)

    nowhere : ((j : ℕ) (d : A) → j < length items → ranges.has_code start end (get_or items j d) a ≡ false) → None ≡ ranges.first_with_code start end items a
    nowhere fails = sym (ap (option_and_then (slice_get items)) (none_passes (λ (item : A). ranges.has_code start end item a) items fails))

    pub all_ended : k ≡ length items → None ≡ ranges.first_with_code start end items a
    all_ended all = nowhere (λ j d inside. ended_has_not j d (omega (arith, all, inside)))

    module _ (is : ranges.are_sorted start end 0 items ≡ true) (d : A) (inside : k < length items) where
      pub begins_later : a < (start (get_or items k d)) → None ≡ ranges.first_with_code start end items a
      begins_later later = nowhere (λ j e here. ⊎_elim
          (λ (less : j < k). ended_has_not j e less)
          (λ (not_less : k ≤ j). at_has_not j e (starts_later j e not_less here))
          (cases_lt j k))
        where
          starts_later : (j : ℕ) (e : A) → k ≤ j → j < length items → a < (start (get_or items j e))
          starts_later j e not_less here = ⊎_elim
              (λ (more : k < j).
              let order = apart 0 items is k j e more here in
              let ends = split.not_ended k e (omega arith) inside in
              omega (arith, order, ends))
              (λ (not_more : j ≤ k).
              let same : k ≡ j = omega arith in
              subst (λ (n : ℕ). a < (start (get_or items n e))) same
              (subst (λ (x : A). a < (start x)) (get_or_default items k d e inside) later))
              (cases_lt k j)

      pub has_begun : (start (get_or items k d)) ≤ a → Some (get_or items k d) ≡ ranges.first_with_code start end items a
      has_begun begun =
          let has : ranges.has_code start end (get_or items k d) a ≡ true =
          and_from (nat_le (start (get_or items k d)) a) (nat_lt a (end (get_or items k d))) (le-leb (start (get_or items k d)) a begun)
          (lt-ltb a (end (get_or items k d)) (split.not_ended k d (omega arith) inside)) in
          let first = first_passes (λ (item : A). ranges.has_code start end item a) items k d inside (λ j less. ended_has_not j d less) has in
          sym (ap (option_and_then (slice_get items)) first ∙ slice_get-get_or items k d inside)

  -- ---- checking the order

  -- the first k items are sorted, and the last of them ends here
  abbrev pub AreSortedUpTo : List A → ℕ → ℕ → Type 0
  AreSortedUpTo items k last = (rest : List A) → ranges.are_sorted start end 0 (take k items ++ rest) ≡ ranges.are_sorted start end last rest

  module _ (items : List A) (k last : ℕ) (before : AreSortedUpTo items k last) where
    pub all_sorted : take k items ≡ items → ranges.are_sorted start end 0 items ≡ true
    all_sorted all = ap (ranges.are_sorted start end 0) (sym all) ∙ (ap (ranges.are_sorted start end 0) (sym (append-nil (take k items))) ∙ before [])

    module _ (m : A) (inside : k < length items) (at : m ≡ get_or items k m) where
      with_it : take (k + 1) items ≡ take k items ++ (m ∷ [])
      with_it = take_more items k m inside ∙ ap (λ (x : A). take k items ++ (x ∷ [])) (sym at)

      pub one_more : ranges.begins_from start end last m ≡ true → AreSortedUpTo items (k + 1) (end m)
      one_more begins rest =
          ap (λ (l : List A). ranges.are_sorted start end 0 (l ++ rest)) with_it
          ∙ (ap (ranges.are_sorted start end 0) (append_assoc (take k items) (m ∷ []) rest)
          ∙ (before (m ∷ rest) ∙ ap (λ (t : Bool). t && ranges.are_sorted start end (end m) rest) begins))

      pub out_of_order : ranges.begins_from start end last m ≡ false → ranges.IsOutOfOrder start end items k
      out_of_order not_begins = (
        ap (ranges.are_sorted start end 0) (sym (append-nil (take k items))) ∙ before [],
        ap (ranges.are_sorted start end 0) with_it ∙ (before (m ∷ []) ∙ ap (λ (t : Bool). t && true) not_begins),
      )

      pub not_sorted : ranges.begins_from start end last m ≡ false → ranges.are_sorted start end 0 items ≡ true → ⊥
      not_sorted not_begins sorted =
          let rest : drop k items ≡ m ∷ drop (suc k) items = drop-cons items k m inside ∙ ap (λ (x : A). x ∷ drop (suc k) items) (sym at) in
          let fails : ranges.are_sorted start end 0 items ≡ false =
          ap (ranges.are_sorted start end 0) (sym (take-append-drop k items)) ∙ (before (drop k items)
          ∙ (ap (ranges.are_sorted start end last) rest ∙ ap (λ (t : Bool). t && ranges.are_sorted start end (end m) (drop (suc k) items)) not_begins)) in
          true≢false (sym sorted ∙ fails)
