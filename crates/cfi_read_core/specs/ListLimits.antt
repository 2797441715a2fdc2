-- The limit of a list: a greatest length, or none.
use Rattle.std.specs.Prelude.{◌≡◌, ℕ, ◌≤◌, Option, Some, MatchOption, IsSome, IsTrue, Bool, List}
use Rattle.std.specs.Prelude.{length}

-- the list has reached its limit
abbrev pub IsAtLimit : {T : Type 0} → Option ℕ → List T → Type 0
IsAtLimit limit items = limit ≡ Some (length items)

-- the list is no longer than its limit
abbrev pub IsWithinLimit : {T : Type 0} → Option ℕ → List T → Type 0
IsWithinLimit limit items = MatchOption limit (Unit {0}) (λ most. length items ≤ most)

-- a list may hold so many items
abbrev pub HasRoomFor : Option ℕ → ℕ → Type 0
HasRoomFor limit count = MatchOption limit (Unit {0}) (λ most. count ≤ most)

-- The lists of a storage are fixed: once they are made they do not allocate, nor does a copy of a
-- row.
abbrev pub IsFixed : Option ℕ → Option ℕ → Bool → Type 0
IsFixed rule_limit stack_limit copies_free =
    IsSome rule_limit × IsSome stack_limit × IsTrue copies_free
