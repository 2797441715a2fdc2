-- A history with one more change.
use Rattle.std.proofs.Common.{◌≡◌, ℕ, ◌==◌, ◌&&◌, ◌++◌, Bool, true, false, cond, List, [], ◌∷◌, Option, Some, None, reverse, refl, sym, ap, ◌∙◌}
use Rattle.std.proofs.lemmas.List.{reverse-append}
use Rattle.cfi_mapped.specs.declared.mappings.MappedCode.{MappedCode}
use Rattle.cfi_mapped.specs.Mappings.{MappedPlace, has_byte_at, mapped_over, mapped_place, place_at_address}
use Rattle.cfi_mapped.specs.Histories.{Change, mapped, executed, forked, mappings_after, place_back, places_after}
use Rattle.cfi_mapped.proofs.MappedOver.{is_mapped_over}

module _ (old : ℕ → List MappedCode) (past : List Change) (after : (q a : ℕ) → place_at_address (old q) a ≡ place_back past q a) where
  -- the last change comes first
  one_back : (change : Change) (q a : ℕ) → place_at_address (mappings_after change old q) a ≡ place_back (change ∷ past) q a
  one_back (mapped pid new) q a =
      elim (q == pid) as (λ (t : Bool). place_at_address (cond t (mapped_over new (old q)) (old q)) a
      ≡ cond (t && has_byte_at new a) (Some (mapped_place new a)) (place_back past q a)) [
        | true ↦ is_mapped_over new (old q) a ∙ ap (λ (p : Option MappedPlace). cond (has_byte_at new a) (Some (mapped_place new a)) p) (after q a)
        | false ↦ after q a
      ]
  one_back (executed pid) q a =
      elim (q == pid) as (λ (t : Bool). place_at_address (cond t [] (old q)) a ≡ cond t None (place_back past q a)) [
        | true ↦ refl
        | false ↦ after q a
      ]
  one_back (forked pid parent) q a =
      elim (q == pid) as (λ (t : Bool). place_at_address (cond t (old parent) (old q)) a ≡ cond t (place_back past parent a) (place_back past q a)) [
        | true ↦ after parent a
        | false ↦ after q a
      ]

pub one_more_change : (old new : ℕ → List MappedCode) (change : Change) → ((q : ℕ) → new q ≡ mappings_after change old q) →
    (past : List Change) → ((q a : ℕ) → place_at_address (old q) a ≡ places_after past q a) →
    (q a : ℕ) → place_at_address (new q) a ≡ places_after (past ++ change ∷ []) q a
one_more_change old new change changed past after q a =
    ap (λ (l : List MappedCode). place_at_address l a) (changed q)
    ∙ one_back old (reverse past) after change q a
    ∙ sym (ap (λ (back : List Change). place_back back q a) (reverse-append past (change ∷ [])))
