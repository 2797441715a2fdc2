-- Whether two maps of rules are equal, seen by the lists that keep them.
use Rattle.std.proofs.Common.{◌≡◌, ℕ, ◌+◌, ◌<◌, ◌≤◌, ◌&&◌, Bool, true, false, Option, Some, List, length, map, get_or, take, sym, ap, ◌∙◌}
use Rattle.std.proofs.lemmas.List.Folds.{list_all-map, list_all_at, list_all_more}
use Rattle.std.proofs.lemmas.List.{take_all}
use Rattle.std.proofs.lemmas.Option.{slice_get-get_or}
use Rattle.std.specs.Option.{option_eq}
use Rattle.std.specs.List.{list_all}
use Rattle.std.specs.Cmp.{nat_cmp_total}
use Rattle.std.specs.FinMap.{nat_cmp-IsAntisymmetric, get}
use Rattle.cfi_read_core.specs.declared.common.Register.{Register}
use Rattle.cfi_state.specs.declared.table.rules.RegisterRule.{RegisterRule}
use Rattle.cfi_state.specs.RulePairs.{numbered_pair, rules_of, IsDistinctRegisters}
use Rattle.cfi_state.specs.Equality.{is_within, rule_eq}
use Rattle.cfi_state.proofs.Entries.{all-from_entries}
use Rattle.cfi_state.proofs.Registers.{get-found}

module _ {T : Type 0} (eq : T → T → Bool) (pairs others : List (Register × RegisterRule T)) where
  -- the register of a pair has an equal rule in both lists
  abbrev pub agrees : Register × RegisterRule T → Bool
  agrees pair = option_eq (rule_eq eq) (get (rules_of pairs) pair.0.0) (get (rules_of others) pair.0.0)

  pub all-agree : IsDistinctRegisters pairs → list_all agrees pairs ≡ is_within (rule_eq eq) (rules_of pairs) (rules_of others)
  all-agree distinct =
      sym (list_all-map (λ (e : ℕ × RegisterRule T). option_eq (rule_eq eq) (get (rules_of pairs) e.0) (get (rules_of others) e.0)) numbered_pair pairs)
      ∙ sym (list_all-map (λ (r : ℕ). option_eq (rule_eq eq) (get (rules_of pairs) r) (get (rules_of others) r)) (λ (e : ℕ × RegisterRule T). e.0) (map numbered_pair pairs))
      ∙ sym (all-from_entries nat_cmp_total nat_cmp-IsAntisymmetric (λ r. option_eq (rule_eq eq) (get (rules_of pairs) r) (get (rules_of others) r)) (map numbered_pair pairs) distinct)

  module _ (distinct : IsDistinctRegisters pairs) (i : ℕ) (pair : Register × RegisterRule T) (within : i < length pairs) (is : pair ≡ get_or pairs i pair) where
    agrees-by : (found : Option (RegisterRule T)) → found ≡ get (rules_of others) pair.0.0 → agrees pair ≡ option_eq (rule_eq eq) (Some pair.1) found
    agrees-by found at =
        ap (λ o. option_eq (rule_eq eq) o (get (rules_of others) pair.0.0)) (get-found pairs i pair.0 pair.1 distinct (slice_get-get_or pairs i pair within ∙ ap Some (sym is)))
        ∙ ap (option_eq (rule_eq eq) (Some pair.1)) (sym at)

    pub refuted : (found : Option (RegisterRule T)) → found ≡ get (rules_of others) pair.0.0 → option_eq (rule_eq eq) (Some pair.1) found ≡ false
        → false ≡ is_within (rule_eq eq) (rules_of pairs) (rules_of others)
    refuted found at other =
        sym (list_all_at agrees pairs i pair within (ap agrees (sym is) ∙ agrees-by found at ∙ other)) ∙ all-agree distinct

    pub agrees-more : (found : Option (RegisterRule T)) → found ≡ get (rules_of others) pair.0.0 → option_eq (rule_eq eq) (Some pair.1) found ≡ true
        → list_all agrees (take i pairs) ≡ true → list_all agrees (take (i + 1) pairs) ≡ true
    agrees-more found at same before =
        list_all_more agrees pairs i pair within
        ∙ ap (λ b. list_all agrees (take i pairs) && b) (ap agrees (sym is) ∙ agrees-by found at ∙ same)
        ∙ ap (λ b. b && true) before

  pub agree-whole : IsDistinctRegisters pairs → (i : ℕ) → length pairs ≤ i → list_all agrees (take i pairs) ≡ true
      → true ≡ is_within (rule_eq eq) (rules_of pairs) (rules_of others)
  agree-whole distinct i past all =
      sym all ∙ ap (list_all agrees) (take_all i pairs past) ∙ all-agree distinct
