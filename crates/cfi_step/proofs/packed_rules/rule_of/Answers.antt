use Rattle.std.proofs.Common.{◌≡◌, ◌+◌, [], List, drop, map, get_or, pos, sym, ap, ◌∙◌, arith, Some}
use Rattle.std.proofs.lemmas.Bool.{eq-eqb, ne_eqb}
use Rattle.std.proofs.lemmas.List.{drop_all, drop_more}
use Rattle.std.specs.FinMap.{get}
use Rattle.cfi_state.specs.RulePairs.{rules_of}
use Rattle.cfi_step.specs.declared.packed_rules.PackedRule.{PackedRule}
use Rattle.cfi_step.specs.declared.packed_rules.SmallRule.{SmallRule}
use Rattle.cfi_step.specs.PackedRules.{pair_of, rule_by}
use Rattle.cfi_step.proofs.FirstRules.{rule_first, rule_later, rule_none}
use Rattle.cfi_step.proofs.packed_rules.rule_of.Goals as goal

abbrev nothing : PackedRule
nothing = record { register = 0; words = pos 0 }

pub returns-then-register : goal.returns-then-register
returns-then-register c =
    let rules = c.args.rules.now in
    let rule = get_or rules c.loop-packed.packed-index nothing in
    let there = drop_more rules c.loop-packed.packed-index nothing c.loop-packed-test.true in
    ap (λ (r : SmallRule). Some (rule_by r)) c.rule.ensures
    ∙ sym (rule_first (pair_of rule) (map pair_of (drop (c.loop-packed.packed-index + 1) rules)) c.args.register (eq-eqb rule.register c.args.register (sym c.register.ensures ∙ c.if-register.true)))
    ∙ ap (λ (l : List PackedRule). get (rules_of (map pair_of l)) c.args.register) (sym there)
    ∙ c.loop-packed.invariant

pub loop-packed-preserved : goal.loop-packed-preserved
loop-packed-preserved c =
    let rules = c.args.rules.now in
    let rule = get_or rules c.loop-packed.packed-index nothing in
    let there = drop_more rules c.loop-packed.packed-index nothing c.loop-packed-test.true in
    sym (rule_later (pair_of rule) (map pair_of (drop (c.loop-packed.packed-index + 1) rules)) c.args.register (ne_eqb rule.register c.args.register (λ same. c.if-register.false (c.register.ensures ∙ same))))
    ∙ ap (λ (l : List PackedRule). get (rules_of (map pair_of l)) c.args.register) (sym there)
    ∙ c.loop-packed.invariant

pub returns : goal.returns
returns c =
    let rules = c.args.rules.now in
    let none : drop c.loop-packed.packed-index rules ≡ [] = drop_all c.loop-packed.packed-index rules (omega (arith, c.loop-packed-test.false)) in
    sym (rule_none c.args.register)
    ∙ ap (λ (l : List PackedRule). get (rules_of (map pair_of l)) c.args.register) (sym none)
    ∙ c.loop-packed.invariant
