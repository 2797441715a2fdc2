-- Items that have code at a range of addresses, as modules.
--     has_code item a, first_with_code items a      the item whose code the address is in
--     are_sorted low items      whether items are in the order of their addresses, with no overlap
--     IsOutOfOrder items k      the first item that isn't, by its index
--     IsInOneAtMost items a      no two items have the address in their code
--     AreEndedBy items a k      the first k items end at or before the address, and no others
use Rattle.std.specs.Prelude.{◌≡◌, ℕ, ◌+◌, ◌<◌, ◌≤◌, ◌&&◌, Bool, true, false, List, [], ◌∷◌, length}
use Rattle.std.specs.Prelude.{get_or, take, nat_le, nat_lt, Option, position}
use Rattle.std.specs.Option.{option_and_then}
use Rattle.std.specs.List.{slice_get}

module _ {A : Type 0} (start end : A → ℕ) where
  abbrev pub has_code : A → ℕ → Bool
  has_code item a = nat_le (start item) a && nat_lt a (end item)

  abbrev pub first_with_code : List A → ℕ → Option A
  first_with_code items a =
      option_and_then (slice_get items) (position (λ item. has_code item a) items)

  -- ---- their order

  -- its code begins at or after an address, and doesn't end before it begins
  abbrev pub begins_from : ℕ → A → Bool
  begins_from low item = nat_le low (start item) && nat_le (start item) (end item)

  -- each item's code begins at or after the end of that before it, the first at or after `low`
  abbrev pub are_sorted : ℕ → List A → Bool
  are_sorted low [] = true
  are_sorted low (item ∷ items) = begins_from low item && are_sorted (end item) items

  -- the items before the one with this index are sorted, and not with it
  abbrev pub IsOutOfOrder : List A → ℕ → Type 0
  IsOutOfOrder items k =
      (are_sorted 0 (take k items) ≡ true) × (are_sorted 0 (take (k + 1) items) ≡ false)

  -- no two items have the address in their code
  abbrev pub IsInOneAtMost : List A → ℕ → Type 0
  IsInOneAtMost items a =
      (i j : ℕ) (d : A) → i < length items → j < length items →
      has_code (get_or items i d) a ≡ true → has_code (get_or items j d) a ≡ true → i ≡ j

-- the items before this index end at or before the address, and the others after it
pub record AreEndedBy {A : Type 0} (end : A → ℕ) (items : List A) (a k : ℕ) : Type 0 where
  pub inside : k ≤ length items
  pub ended : (j : ℕ) (d : A) → j < k → end (get_or items j d) ≤ a
  pub not_ended : (j : ℕ) (d : A) → k ≤ j → j < length items → a < end (get_or items j d)
