use Rattle.std.proofs.Common.{◌≡◌, ℕ, Ok, Some}
use Rattle.cfi_read_core.specs.ReadFunctions.{Position}
use Rattle.cfi_c.proofs.PackedReads.{found_pc, if_some_at, with_pc}
use Rattle.cfi_c.proofs.packed_caller.quick_caller_from.Goals as goal

pub returns-in-Some : goal.returns-in-Some
returns-in-Some c =
    let memory = c.args.memory.now in
    let found = if_some_at (λ (pc : ℕ). (bytes : Position) → Ok (Some pc) ≡ found_pc memory c.args.registers.now c.args.row.now bytes c.args.cfa) c.quick_pc.result c.in-Some.pc c.in-Some.is c.quick_pc.ensures in
    with_pc memory c.args.registers.now c.args.row.now c.args.cfa (Some c.in-Some.pc) c.is_signal_trampoline-is_interrupted.result c.args_size-args_size.result c.is_signal_trampoline-is_interrupted.ensures c.args_size-args_size.ensures found
