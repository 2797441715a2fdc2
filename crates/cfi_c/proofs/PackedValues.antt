-- The registers of a caller as values of C: what is copied, and one more written.
use Rattle.std.proofs.Common.{◌≡◌, ◌<◌, ◌∙◌, ℕ, List, [], ◌∷◌, length, Option, Some, None, refl, sym, ap, inl, inr, arith, get_or, get_or-set_other}
use Rattle.std.proofs.Math.ListN.{get_or-map}
use Rattle.std.proofs.lemmas.Bool.{cases_eq}
use Rattle.std.proofs.lemmas.Grind.{get_or-set_at}
use Rattle.std.proofs.lemmas.List.{length-map, length-set, map-set}
use Rattle.std.specs.Prelude.{slice_set}
use Rattle.cfi_expression.specs.Frames.{known}
use Rattle.cfi_c.specs.declared.register.CfiValue.{CfiValue}
use Rattle.cfi_c.specs.PassedRegisters.{plain_of}
use Rattle.cfi_c.specs.PassedRegisters.{values_of}
use Rattle.cfi_c.specs.PassedRegisters.{known_value}
use Rattle.cfi_c.specs.PassedRegisters.{AreValues}
use Rattle.cfi_c.specs.PassedRegisters.{written_value}

pub known_written : (value : Option ℕ) → known_value (written_value value) ≡ value
known_written None = refl
known_written (Some n) = refl

pub known_at : (cs : List CfiValue) (k : ℕ) → known (values_of cs) k ≡ known_value (get_or cs k (written_value None))
known_at cs k = get_or-map known_value cs k (written_value None)

pub values_set : (cs : List CfiValue) (k : ℕ) (value : Option ℕ) → values_of (slice_set cs k (written_value value)) ≡ slice_set (values_of cs) k value
values_set cs k value = map-set known_value cs k (written_value value) ∙ ap (slice_set (values_of cs) k) (known_written value)

-- what is copied is known as it was, and written as it is known
pub copied : (values : List (Option ℕ)) (cs : List CfiValue) → AreValues values cs → (k : ℕ) → k < length (values_of cs) → get_or (values_of cs) k None ≡ known values k
copied values cs are k inside =
    known_at cs k ∙ (ap known_value (are k (omega (arith, inside, length-map cs known_value))) ∙ known_written (known values k))

pub plain : (values : List (Option ℕ)) (cs : List CfiValue) → AreValues values cs → AreValues (values_of cs) cs
plain values cs are k inside =
    are k inside ∙ ap written_value (sym (known_at cs k ∙ (ap known_value (are k inside) ∙ known_written (known values k))))

-- one more is written
pub still_plain : (cs new : List CfiValue) (k : ℕ) (value : Option ℕ) → new ≡ slice_set cs k (written_value value) → AreValues (values_of cs) cs → AreValues (values_of new) new
still_plain cs new k value is are j inside =
    let same_length : length new ≡ length cs = ap length is ∙ length-set cs k (written_value value) in
    let here : get_or new j (written_value None) ≡ get_or (slice_set cs k (written_value value)) j (written_value None) = ap (λ l. get_or l j (written_value None)) is in
    elim (cases_eq j k) [
      | inl same ↦
          let at : get_or new j (written_value None) ≡ written_value value = here ∙ get_or-set_at cs k j (written_value value) (written_value None) same (omega (arith, inside, same, same_length)) in
          at ∙ ap written_value (sym (known_at new j ∙ (ap known_value at ∙ known_written value)))
      | inr other ↦
          let at : get_or new j (written_value None) ≡ get_or cs j (written_value None) = here ∙ get_or-set_other cs k j (written_value value) (written_value None) other in
          at ∙ (are j (omega (arith, inside, same_length)) ∙ ap written_value (known_at cs j ∙ (sym (ap known_value at) ∙ sym (known_at new j))))
    ]

-- ---- registers without the values of those that aren't known

pub values_plain : (cs : List CfiValue) → values_of (plain_of cs) ≡ values_of cs
values_plain [] = refl
values_plain (c ∷ cs) = λ i. known_written (known_value c) i ∷ values_plain cs i

pub plain_values : (cs : List CfiValue) → AreValues (values_of cs) (plain_of cs)
plain_values cs k inside = get_or-map (λ (c : CfiValue). written_value (known_value c)) cs k (written_value None) ∙ ap written_value (sym (known_at cs k))

pub plain_set : (cs : List CfiValue) (k : ℕ) (value : Option ℕ) → plain_of (slice_set cs k (written_value value)) ≡ slice_set (plain_of cs) k (written_value value)
plain_set cs k value =
    map-set (λ (c : CfiValue). written_value (known_value c)) cs k (written_value value) ∙ ap (λ (v : Option ℕ). slice_set (plain_of cs) k (written_value v)) (known_written value)
