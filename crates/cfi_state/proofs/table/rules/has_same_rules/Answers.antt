use Rattle.std.proofs.Common.{◌≡◌, true, false, None, Some, refl, ◌∙◌, sym, rules}
use Rattle.cfi_state.specs.Equality.{rule_eq}
use Rattle.cfi_state.proofs.Rising.{distinct-from_rising}
use Rattle.cfi_state.proofs.Equal.{refuted, agrees-more, agree-whole}
use Rattle.cfi_state.proofs.table.rules.has_same_rules.Goals as goal

pub returns-in_default : goal.returns-in_default
returns-in_default g c =
    refuted g.T.PartialEq.eq c.args.pairs.now c.args.others.now (distinct-from_rising c.args.pairs.now c.requires.pairs) c.loop-pair.pair-index c.pair-item.result c.loop-pair-test.true c.pair-item.is
    None (sym c.in_default.is ∙ c.rule_of.ensures) refl

pub returns-then-ne : goal.returns-then-ne
returns-then-ne g c =
    let other : rule_eq g.T.PartialEq.eq c.pair-item.result.1 c.in-Some.rule ≡ false = search rules in
    refuted g.T.PartialEq.eq c.args.pairs.now c.args.others.now (distinct-from_rising c.args.pairs.now c.requires.pairs) c.loop-pair.pair-index c.pair-item.result c.loop-pair-test.true c.pair-item.is
    (Some c.in-Some.rule) (sym c.in-Some.is ∙ c.rule_of.ensures) other

pub loop-pair-preserved : goal.loop-pair-preserved
loop-pair-preserved g c =
    let same : rule_eq g.T.PartialEq.eq c.pair-item.result.1 c.in-Some.rule ≡ true = search rules in
    agrees-more g.T.PartialEq.eq c.args.pairs.now c.args.others.now (distinct-from_rising c.args.pairs.now c.requires.pairs) c.loop-pair.pair-index c.pair-item.result c.loop-pair-test.true c.pair-item.is
    (Some c.in-Some.rule) (sym c.in-Some.is ∙ c.rule_of.ensures) same c.loop-pair.invariant

pub returns : goal.returns
returns g c =
    agree-whole g.T.PartialEq.eq c.args.pairs.now c.args.others.now (distinct-from_rising c.args.pairs.now c.requires.pairs) c.loop-pair.pair-index c.loop-pair-test.false c.loop-pair.invariant
