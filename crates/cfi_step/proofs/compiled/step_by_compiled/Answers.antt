use Rattle.std.proofs.Common.{Result, Err, refl, subst}
use Rattle.cfi_read_core.specs.declared.error.Error.{Error}
use Rattle.cfi_compiled.specs.CompiledTables.{frame_at}
use Rattle.cfi_compiled.specs.FrameParts.{FrameParts}
use Rattle.cfi_expression.specs.declared.error.FrameError.{FrameError}
use Rattle.cfi_expression.specs.declared.error.FrameError.TheVariants.{NoRow}
use Rattle.cfi_expression.specs.Frames.{frame_view}
use Rattle.cfi_step.specs.declared.step.Caller.{Caller}
use Rattle.cfi_step.specs.StepsByTable.{IsStepByFrame}
use Rattle.cfi_step.proofs.AsScanned.{as_scanned}
use Rattle.cfi_step.proofs.compiled.step_by_compiled.Goals as goal

pub returns-in-Ok-clause-scan : goal.returns-in-Ok-clause-scan
returns-in-Ok-clause-scan g c =
    let frame = frame_view g.M.Memory.number_at c.args.frame.now in
    let bytes = (g.Section._UnwindSectionPrivate.view c.args.section.now).position in
    as_scanned frame bytes c.args.abi.now c.args.address c.step_by_row.result c.step_by_row.new.caller c.args.table.now
    (subst (λ (found : Result FrameParts Error). IsStepByFrame frame bytes c.args.abi.now found c.step_by_row.result c.step_by_row.new.caller) c.in-Ok.ensures.frame
    (rw (c.return_address_register.ensures, c.is_signal_trampoline.ensures) at c.step_by_row.ensures.caller, c.step_by_row.ensures.registers))

pub returns-in-Err-clause-scan : goal.returns-in-Err-clause-scan
returns-in-Err-clause-scan g c =
    let frame = frame_view g.M.Memory.number_at c.args.frame.now in
    let bytes = (g.Section._UnwindSectionPrivate.view c.args.section.now).position in
    let refused : Result Caller FrameError = Err (NoRow c.in-Err.error) in
    as_scanned frame bytes c.args.abi.now c.args.address refused c.args.caller.now c.args.table.now
    (subst (λ (found : Result FrameParts Error). IsStepByFrame frame bytes c.args.abi.now found refused c.args.caller.now) {y = frame_at c.args.table.now c.args.address} c.in-Err.ensures.frame refl)
