-- The pairs of an auxiliary vector, one after the other.
use Rattle.std.proofs.Common.{◌≡◌, ◌∙◌, ◌==◌, ◌+◌, ℕ, Bool, true, false, List, Some, None, ap, ap₂, drop, slice_get, if◌then◌else◌, refl, sym}
use Rattle.std.specs.Int.{w64}
use Rattle.cfi_elf.specs.Fields.{number_at}
use Rattle.cfi_elf.proofs.EntrySteps.{next_left}
use Rattle.cfi_cores.specs.AuxiliaryVectors.{value_in}

module _ (kind : ℕ) (pairs : List (List ℕ)) (index : ℕ) (pair : List ℕ) (is : Some pair ≡ slice_get pairs index) where
  abbrev type_of : ℕ
  type_of = number_at false pair 0 w64

  -- by whether this one ends them, and whether it is of the type
  step : (ends found : Bool) → (type_of == 0) ≡ ends → (type_of == kind) ≡ found
      → value_in kind (drop index pairs) ≡ (if ends then None else if found then Some (number_at false pair 8 w64) else value_in kind (drop (index + 1) pairs))
  step ends found e f =
      ap (value_in kind) (next_left pairs index pair is)
      ∙ ap₂ (λ (e f : Bool). if e then None else if f then Some (number_at false pair 8 w64) else value_in kind (drop (index + 1) pairs)) e f

  pub ended : (type_of == 0) ≡ true → None ≡ value_in kind (drop index pairs)
  ended e = sym (step true (type_of == kind) e refl)

  pub found : (type_of == 0) ≡ false → (type_of == kind) ≡ true → Some (number_at false pair 8 w64) ≡ value_in kind (drop index pairs)
  found e f = sym (step false true e f)

  pub another : (type_of == 0) ≡ false → (type_of == kind) ≡ false → value_in kind (drop (index + 1) pairs) ≡ value_in kind (drop index pairs)
  another e f = sym (step false false e f)
