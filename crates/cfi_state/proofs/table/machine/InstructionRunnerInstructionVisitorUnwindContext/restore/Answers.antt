use Rattle.std.proofs.Common.{None, refl}
use Rattle.std.proofs.lemmas.Result.{err_from_is_err_and}
use Rattle.cfi_state.specs.ContextEffects.{setting_of}
use Rattle.cfi_state.proofs.table.machine.InstructionRunnerInstructionVisitorUnwindContext.restore.Goals as goal

pub returns : goal.returns
returns g c = (c.in_ok-restore_rule.ensures (setting_of c.args.self.now.parameters.now None None) c.args.self.now.location, refl)

pub returns-in_err-restore_rule : goal.returns-in_err-restore_rule
returns-in_err-restore_rule g c =
    let refusal = err_from_is_err_and c.from_residual.result c.from_residual.ensures.1 in
    rw (refusal.1, refusal.2) (c.in_err-restore_rule.ensures (setting_of c.args.self.now.parameters.now None None) c.args.self.now.location, tt)
