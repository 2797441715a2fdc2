use Rattle.std.proofs.Common.{◌≡◌, ℕ, Ok}
use Rattle.cfi_read_core.specs.ReadFunctions.{Position}
use Rattle.cfi_step.specs.Callers.{cfa_of}
use Rattle.cfi_step.specs.PackedRows.{parts_packed}
use Rattle.cfi_c.specs.PackedSteps.{passed_frame}
use Rattle.cfi_c.specs.PassedMemories.{abi_in}
use Rattle.cfi_c.proofs.PackedReads.{if_some_at, quick_with_cfa}
use Rattle.cfi_c.proofs.packed_caller.quick_caller.Goals as goal

pub returns-in-Some : goal.returns-in-Some
returns-in-Some c =
    let memory = c.args.memory.now in
    let registers = c.args.registers.now in
    let row = c.args.row.now in
    let found = if_some_at (λ (cfa : ℕ). (bytes : Position) → Ok cfa ≡ cfa_of (passed_frame memory registers) bytes (abi_in memory) (λ (n : ℕ). n) (parts_packed row).cfa) c.quick_frame_address.result c.in-Some.cfa c.in-Some.is c.quick_frame_address.ensures in
    quick_with_cfa memory registers row c.in-Some.cfa c.quick_caller_from.result found c.quick_caller_from.ensures
