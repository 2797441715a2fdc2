use Rattle.std.proofs.Common.{Ok, sym, ap, ◌∙◌}
use Rattle.cfi_state.proofs.Evaluation.{restores}
use Rattle.cfi_state.proofs.table.machine.restore_rule.Goals as goal

pub returns-in-Some : goal.returns-in-Some
returns-in-Some g c = λ s location.
    restores (record s { rule_limit = g.S.Rules.ArrayLike.limit; stack_limit = g.S-Stack-ArrayLike.limit }) g.S.Rules.CopyList.copies_free location c.args.context.now c.set_rule.new.self
    c.args.register c.in-Some.rule c.set_rule.result (sym c.initial_rule.ensures ∙ c.in_ok-rule.was ∙ ap Ok c.in-Some.is) c.set_rule.ensures
