use Rattle.std.proofs.Common.{◌∙◌, sym}
use Rattle.cfi_c.proofs.PackedReads.{with_pc, without_pc}
use Rattle.cfi_c.proofs.packed_caller.caller_from.Goals as goal

pub returns-in-Ok : goal.returns-in-Ok
returns-in-Ok c =
    with_pc c.args.memory.now c.args.registers.now c.args.row.now c.args.cfa c.in-Ok.pc c.is_signal_trampoline.result c.args_size.result c.is_signal_trampoline.ensures c.args_size.ensures
    (λ bytes. sym c.in-Ok.is ∙ c.caller_pc.ensures bytes)

pub returns-in-Err : goal.returns-in-Err
returns-in-Err c = without_pc c.args.memory.now c.args.registers.now c.args.row.now c.args.cfa c.in-Err.error (λ bytes. sym c.in-Err.is ∙ c.caller_pc.ensures bytes)
