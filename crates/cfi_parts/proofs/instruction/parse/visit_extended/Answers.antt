use Rattle.std.proofs.Common.{◌≡◌, refl, rules}
use Rattle.cfi_read_core.specs.declared.instruction.CallFrameInstruction.TheVariants.{RestoreState}
use Rattle.cfi_parts.proofs.PointerReads.{restore_read}
use Rattle.cfi_parts.proofs.instruction.parse.visit_extended.Goals as goal

pub returns-in-DW_CFA_restore_state : goal.returns-in-DW_CFA_restore_state
returns-in-DW_CFA_restore_state g c =
    let is : c.args.opcode.0 ≡ 0x0b = search rules in
    (RestoreState, (restore_read _ _ _ is, refl), search rules depth 2)
