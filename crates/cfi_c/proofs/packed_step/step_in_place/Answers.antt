use Rattle.std.proofs.Common.{Ok}
use Rattle.cfi_step.specs.declared.step.Caller.{Caller}
use Rattle.cfi_c.specs.PackedSteps.{IsCallerBy}
use Rattle.cfi_c.proofs.PackedReads.{if_some_at}
use Rattle.cfi_c.proofs.packed_step.step_in_place.Goals as goal

pub returns-in-Some : goal.returns-in-Some
returns-in-Some c =
    let found = if_some_at (λ (caller : Caller). IsCallerBy c.args.memory.now c.args.registers.now c.args.row.now (Ok caller)) c.quick_caller.result c.in-Some.found c.in-Some.is c.quick_caller.ensures in
    (Ok c.in-Some.found, (found, c.write_ruled.ensures.in_place, tt), c.write_function.ensures, c.write_caller.ensures, c.write_end.ensures)

pub returns-in-None : goal.returns-in-None
returns-in-None c =
    let (step, packed, caller, end) = c.step_by_any.ensures in
    (step, packed, c.write_function.ensures, caller, end)
