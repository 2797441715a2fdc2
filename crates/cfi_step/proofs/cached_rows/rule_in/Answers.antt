use Rattle.std.proofs.Common.{◌≡◌, ℕ, ◌+◌, [], List, drop, get_or, sym, ap, ◌∙◌, arith}
use Rattle.std.proofs.lemmas.List.{drop_all, drop_more}
use Rattle.std.specs.FinMap.{get}
use Rattle.cfi_read_core.specs.declared.common.Register.{Register}
use Rattle.cfi_state.specs.RulePairs.{rules_of}
use Rattle.cfi_state.specs.declared.table.rules.RegisterRule.{RegisterRule}
use Rattle.cfi_state.specs.declared.table.rules.RegisterRule.TheVariants.{Undefined}
use Rattle.cfi_step.proofs.FirstRules.{rule_first, rule_later, rule_none}
use Rattle.cfi_step.proofs.cached_rows.rule_in.Goals as goal

abbrev nothing : Register × RegisterRule ℕ
nothing = (record { 0 = 0 }, Undefined)

pub returns-then-eq : goal.returns-then-eq
returns-then-eq c =
    let pairs = c.args.rules.now in
    let pair = get_or pairs c.loop-pair.pair-index nothing in
    let there = drop_more pairs c.loop-pair.pair-index nothing c.loop-pair-test.true in
    sym (rule_first pair (drop (c.loop-pair.pair-index + 1) pairs) c.args.register.0 (sym c.eq.ensures ∙ c.if-eq.true))
    ∙ ap (λ (l : List (Register × RegisterRule ℕ)). get (rules_of l) c.args.register.0) (sym there)
    ∙ c.loop-pair.invariant

pub loop-pair-preserved : goal.loop-pair-preserved
loop-pair-preserved c =
    let pairs = c.args.rules.now in
    let pair = get_or pairs c.loop-pair.pair-index nothing in
    let there = drop_more pairs c.loop-pair.pair-index nothing c.loop-pair-test.true in
    sym (rule_later pair (drop (c.loop-pair.pair-index + 1) pairs) c.args.register.0 (sym c.eq.ensures ∙ c.if-eq.false))
    ∙ ap (λ (l : List (Register × RegisterRule ℕ)). get (rules_of l) c.args.register.0) (sym there)
    ∙ c.loop-pair.invariant

pub returns : goal.returns
returns c =
    let pairs = c.args.rules.now in
    let none : drop c.loop-pair.pair-index pairs ≡ [] = drop_all c.loop-pair.pair-index pairs (omega (arith, c.loop-pair-test.false)) in
    sym (rule_none c.args.register.0)
    ∙ ap (λ (l : List (Register × RegisterRule ℕ)). get (rules_of l) c.args.register.0) (sym none)
    ∙ c.loop-pair.invariant
