-- Instructions whose offsets are seen by a function, as the numbers that they are.
use Rattle.cfi_read_core.specs.declared.instruction.UnwindExpression.{UnwindExpression}
use Rattle.cfi_read_core.specs.declared.instruction.CallFrameInstruction.{CallFrameInstruction}
use Rattle.cfi_read_core.specs.declared.instruction.CallFrameInstruction.TheVariants as instruction

abbrev pub map_expression : {A B : Type 0} → (A → B) → UnwindExpression A → UnwindExpression B
map_expression f e = record { offset = f e.offset; length = f e.length }

-- only expressions have offsets
abbrev pub map_instruction :
    {A B : Type 0} → (A → B) → CallFrameInstruction A → CallFrameInstruction B
map_instruction f (instruction.SetLoc address) = instruction.SetLoc address
map_instruction f (instruction.AdvanceLoc delta) = instruction.AdvanceLoc delta
map_instruction f (instruction.DefCfa register offset) = instruction.DefCfa register offset
map_instruction f (instruction.DefCfaSf register factored) = instruction.DefCfaSf register factored
map_instruction f (instruction.DefCfaRegister register) = instruction.DefCfaRegister register
map_instruction f (instruction.DefCfaOffset offset) = instruction.DefCfaOffset offset
map_instruction f (instruction.DefCfaOffsetSf factored) = instruction.DefCfaOffsetSf factored
map_instruction f (instruction.DefCfaExpression expression) =
    instruction.DefCfaExpression (map_expression f expression)
map_instruction f (instruction.Undefined register) = instruction.Undefined register
map_instruction f (instruction.SameValue register) = instruction.SameValue register
map_instruction f (instruction.Offset register factored) = instruction.Offset register factored
map_instruction f (instruction.OffsetExtendedSf register factored) =
    instruction.OffsetExtendedSf register factored
map_instruction f (instruction.OffsetExtendedNegative register factored) =
    instruction.OffsetExtendedNegative register factored
map_instruction f (instruction.ValOffset register factored) =
    instruction.ValOffset register factored
map_instruction f (instruction.ValOffsetSf register factored) =
    instruction.ValOffsetSf register factored
map_instruction f (instruction.Register dest src) = instruction.Register dest src
map_instruction f (instruction.Expression register expression) =
    instruction.Expression register (map_expression f expression)
map_instruction f (instruction.ValExpression register expression) =
    instruction.ValExpression register (map_expression f expression)
map_instruction f (instruction.Restore register) = instruction.Restore register
map_instruction f instruction.RememberState = instruction.RememberState
map_instruction f instruction.RestoreState = instruction.RestoreState
map_instruction f (instruction.ArgsSize size) = instruction.ArgsSize size
map_instruction f instruction.NegateRaState = instruction.NegateRaState
map_instruction f instruction.Nop = instruction.Nop
