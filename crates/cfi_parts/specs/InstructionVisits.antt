-- What is read where a visitor of instructions is called with each.
use Rattle.std.specs.Prelude.{◌≡◌, ℕ, Option, Some, None, Result, Ok, Err}
use Rattle.cfi_read_core.specs.declared.error.Error.{Error}
use Rattle.cfi_read_core.specs.declared.instruction.CallFrameInstruction.{CallFrameInstruction}
use Rattle.cfi_read_core.specs.MappedInstructions.{map_instruction}
use Rattle.cfi_read_core.specs.ReadFunctions.{Position, Read}
use Rattle.cfi_read_core.specs.ReaderCalls.{Reads}
use Rattle.cfi_parts.specs.Instructions.{Instruction}
use Rattle.cfi_parts.specs.InstructionReaders.{InstructionReader, MeetsNext, IsShorter}
use Rattle.cfi_parts.specs.InstructionReaders.{HasExpressionOf}

module _ {T C A : Type 0} (number : T → ℕ) (visits : CallFrameInstruction T → C → C → A → Type 0)
  where
    -- The visitor visits the instruction that the read gives. After an error of the read the target
    -- is as it was.
    abbrev pub VisitsRead : Read Instruction → Position → Position → C → C → Result A Error → Type 0
    VisitsRead read old new before after (Ok answer) =
        (i : CallFrameInstruction T) × Reads (map_instruction number) read old (Ok i) new
        × visits i before after answer
    VisitsRead read old new before after (Err e) =
        Reads {X = CallFrameInstruction T} (map_instruction number) read old (Err e) new
        × (after ≡ before)

    -- The visitor visits the next instruction, if there is one that can be read; else the target is
    -- as it was. Fewer bytes are left after it, and its expression lies in the section from which
    -- it was read.
    abbrev pub VisitsNext :
        InstructionReader → InstructionReader → C → C → Result (Option A) Error → Type 0
    VisitsNext old new before after (Ok (Some answer)) =
        (i : CallFrameInstruction T) × MeetsNext number (Ok (Some i)) old new
        × visits i before after answer × IsShorter new old × HasExpressionOf number old i
    VisitsNext old new before after (Ok None) =
        MeetsNext number (Ok None) old new × (after ≡ before)
    VisitsNext old new before after (Err e) = MeetsNext number (Err e) old new × (after ≡ before)
