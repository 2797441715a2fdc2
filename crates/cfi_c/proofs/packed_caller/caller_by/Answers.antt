use Rattle.std.proofs.Common.{◌∙◌, sym}
use Rattle.cfi_c.proofs.PackedReads.{with_cfa, without_cfa}
use Rattle.cfi_c.proofs.packed_caller.caller_by.Goals as goal

pub returns-in-Ok : goal.returns-in-Ok
returns-in-Ok c =
    with_cfa c.args.memory.now c.args.registers.now c.args.row.now c.in-Ok.cfa c.caller_from.result (λ bytes. sym c.in-Ok.is ∙ c.frame_address.ensures bytes) c.caller_from.ensures

pub returns-in-Err : goal.returns-in-Err
returns-in-Err c = without_cfa c.args.memory.now c.args.registers.now c.args.row.now c.in-Err.error (λ bytes. sym c.in-Err.is ∙ c.frame_address.ensures bytes)
