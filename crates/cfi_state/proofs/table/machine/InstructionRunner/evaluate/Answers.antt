use Rattle.std.proofs.Common.{Ok, Err, refl, sym, ◌∙◌}
use Rattle.std.proofs.lemmas.Result.{err_from_is_err_and}
use Rattle.cfi_read_core.specs.declared.instruction.CallFrameInstruction.TheVariants.{NegateRaState}
use Rattle.cfi_state.proofs.Evaluation.{changed, sets-given}
use Rattle.cfi_state.proofs.table.machine.InstructionRunner.evaluate.Goals as goal

pub returns-in_err-set_rule : goal.returns-in_err-set_rule
returns-in_err-set_rule g c =
    let refusal = err_from_is_err_and c.from_residual.result c.from_residual.ensures.1 in
    rw (refusal.1, refusal.2) (sets-given c.args.self.now.parameters.now g.S.Rules.ArrayLike.limit g.S-Stack-ArrayLike.limit g.S.Rules.CopyList.copies_free c.args.self.now.location c.args.context.now c.set_rule.new.self
    c.args.instruction (Err c.in_err-set_rule.field-0.0) (c.in-Some.register, c.in-Some.rule) (sym c.rule_given.ensures ∙ c.in-Some.is) c.in_err-set_rule.ensures)

pub returns-in-Some : goal.returns-in-Some
returns-in-Some g c =
    sets-given c.args.self.now.parameters.now g.S.Rules.ArrayLike.limit g.S-Stack-ArrayLike.limit g.S.Rules.CopyList.copies_free c.args.self.now.location c.args.context.now c.set_rule.new.self
    c.args.instruction (Ok tt) (c.in-Some.register, c.in-Some.rule) (sym c.rule_given.ensures ∙ c.in-Some.is) c.in_ok-set_rule.ensures

pub returns-in-NegateRaState : goal.returns-in-NegateRaState
returns-in-NegateRaState g c =
    rw (c.in-NegateRaState.is, c.and.ensures) (changed c.args.self.now.parameters.now g.S.Rules.ArrayLike.limit g.S-Stack-ArrayLike.limit g.S.Rules.CopyList.copies_free c.args.self.now.location c.args.context.now
    c.negate_ra_state.new.context NegateRaState c.negate_ra_state.result refl (c.negate_ra_state.ensures c.args.self.now.parameters.now c.args.self.now.location))
