-- Rests stay in the list of rules when rules and rests are added.
use Rattle.std.proofs.Common.{◌≡◌, ℕ, ◌+◌, ◌-◌, List, [], ◌∷◌, ◌++◌, length, take, drop, refl, sym, ap, subst, ◌∙◌, arith}
use Rattle.std.proofs.lemmas.List.{length-drop, length-append, take-append-le, drop-append-le, take_all}
use Rattle.std.proofs.lemmas.List.Elements.{All-push}
use Rattle.std.specs.List.{All}
use Rattle.cfi_read_core.specs.declared.common.Register.{Register}
use Rattle.cfi_state.specs.RulePairs.{IsDistinctRegisters}
use Rattle.cfi_state.specs.declared.table.rules.RegisterRule.{RegisterRule}
use Rattle.cfi_compiled.specs.declared.rests.KeptRest.{KeptRest}
use Rattle.cfi_compiled.specs.KeptRows.{HasRulesIn, rules_at}

abbrev Pairs : Type 0
Pairs = List (Register × RegisterRule ℕ)

drop_all_front : (rules more : Pairs) → drop (length rules) (rules ++ more) ≡ more
drop_all_front [] more = refl
drop_all_front (pair ∷ rules) more = drop_all_front rules more

module _ (rests : List KeptRest) (rules more : Pairs) (kept : All (HasRulesIn rules) rests) where
  same_rules : (rest : KeptRest) → HasRulesIn rules rest → rules_at (rules ++ more) rest ≡ rules_at rules rest
  same_rules rest is =
      let long = length-drop rest.begin rules in
      ap (λ (l : Pairs). take (rest.end - rest.begin) l) (drop-append-le rest.begin rules more (omega (arith, is.order, is.inside)))
      ∙ take-append-le (rest.end - rest.begin) (drop rest.begin rules) more (omega (arith, is.order, is.inside, long))

  still : (rest : KeptRest) → HasRulesIn rules rest → HasRulesIn (rules ++ more) rest
  still rest is = record {
    order = is.order;
    inside = let long = length-append rules more in omega (arith, long, is.inside);
    distinct = subst (λ (l : Pairs). IsDistinctRegisters l) (sym (same_rules rest is)) is.distinct;
  }

  -- more rules
  kept_longer : All (HasRulesIn (rules ++ more)) rests
  kept_longer i d within = still _ (kept i d within)

  -- and their rest
  module _ (rest : KeptRest) (begins : rest.begin ≡ length rules) (ends : rest.end ≡ length rules + length more) where
    own_rules : rules_at (rules ++ more) rest ≡ more
    own_rules =
        let long = length-drop (length rules) (rules ++ more) in
        let all = length-append rules more in
        ap (λ n. take (rest.end - n) (drop n (rules ++ more))) begins
        ∙ take_all (rest.end - length rules) (drop (length rules) (rules ++ more)) (omega (arith, long, all, ends))
        ∙ drop_all_front rules more

    pub kept_pushed : IsDistinctRegisters more → All (HasRulesIn (rules ++ more)) (rests ++ rest ∷ [])
    kept_pushed distinct =
        All-push (HasRulesIn (rules ++ more)) rests rest kept_longer
        (record {
          order = omega (arith, begins, ends);
          inside = let all = length-append rules more in omega (arith, all, ends);
          distinct = subst (λ (l : Pairs). IsDistinctRegisters l) (sym own_rules) distinct;
        })
