-- What a cache of rows has kept, whatever form its slots have. Each row is that of an address of a
-- file: `Holds file a slot` says that a slot holds it, `Says slot` what it says.
--     HoldsAtMost Holds file a Says slot      the slot holds a row of the address that says this,
--         or none
--     Keeps Holds file a Says old new      such a row may have been kept
use Rattle.std.specs.Prelude.{◌≡◌, ◌⊎◌, ℕ, List, slice_set}

module _ {K : Type 0} (Holds : ℕ → ℕ → K → Type 0) (file a : ℕ) (Says : K → Type 0) where
  abbrev pub HoldsAtMost : K → Type 0
  HoldsAtMost slot =
      (other b : ℕ) → Holds other b slot → (other ≡ file) × (b ≡ a) × Says slot

  -- one slot at most is written
  abbrev pub Keeps : List K → List K → Type 0
  Keeps old new =
      (new ≡ old) ⊎ ((k : ℕ) × (slot : K) × (new ≡ slice_set old k slot) × HoldsAtMost slot)
