-- The first rule of a register in a list of pairs is that of the map.
use Rattle.std.proofs.Common.{◌≡◌, ◌==◌, ℕ, List, [], ◌∷◌, Some, None, map, true, false, refl, sym, ◌∙◌}
use Rattle.std.proofs.lemmas.Bool.{eqb-true, eqb-false, eq-eqb, ne_eqb}
use Rattle.std.specs.Cmp.{nat_cmp_total, unsigned_ties}
use Rattle.std.specs.FinMap.{get, get-from_entries}
use Rattle.std.specs.Ordering.{nat_cmp, eq_by_cmp}
use Rattle.cfi_read_core.specs.declared.common.Register.{Register}
use Rattle.cfi_state.specs.RulePairs.{numbered_pair, rules_of}
use Rattle.cfi_state.specs.declared.table.rules.RegisterRule.{RegisterRule}

module _ {T : Type 0} (pair : Register × RegisterRule T) (pairs : List (Register × RegisterRule T)) (register : ℕ) where
  pub rule_first : (pair.0.0 == register) ≡ true → get (rules_of (pair ∷ pairs)) register ≡ Some pair.1
  rule_first same =
      let ties : eq_by_cmp nat_cmp register pair.0.0 ≡ true = sym (unsigned_ties register pair.0.0) ∙ eq-eqb register pair.0.0 (sym (eqb-true _ _ same)) in
      get-from_entries nat_cmp_total (map numbered_pair (pair ∷ pairs)) register ∙ rw ties refl

  pub rule_later : (pair.0.0 == register) ≡ false → get (rules_of (pair ∷ pairs)) register ≡ get (rules_of pairs) register
  rule_later other =
      let apart : eq_by_cmp nat_cmp register pair.0.0 ≡ false = sym (unsigned_ties register pair.0.0) ∙ ne_eqb register pair.0.0 (λ same. eqb-false _ _ other (sym same)) in
      get-from_entries nat_cmp_total (map numbered_pair (pair ∷ pairs)) register ∙ rw apart refl ∙ sym (get-from_entries nat_cmp_total (map numbered_pair pairs) register)

pub rule_none : {T : Type 0} (register : ℕ) → get (rules_of {T = T} []) register ≡ None
rule_none {T} register = get-from_entries nat_cmp_total [] register
