-- What an iterator over instructions reads.
use Rattle.std.specs.Prelude.{List, Result}
use Rattle.cfi_read_core.specs.declared.error.Error.{Error}
use Rattle.cfi_read_core.specs.ReadFunctions.{Position}
use Rattle.cfi_parts.specs.declared.instruction.CallFrameInstructionIter.{CallFrameInstructionIter}
use Rattle.cfi_parts.specs.Instructions.{Instruction}
use Rattle.cfi_parts.specs.InstructionReaders.{InstructionReader, instructions_left, items}
use Rattle.cfi_parts.specs.ReadingParameters.{reader_at}

-- the braces have the reader's offset and byte order, and what the traits of the three say
abbrev pub instruction_reader :
    {R O E : Type 0} {a : _} {b : _} {c : _} {d : _} {e : _} {f : _} {g : _} {h : _} {i : _} {j : _}
    {k : _} →
    (R → Position) → CallFrameInstructionIter R O E a b c d e f g h i j k → InstructionReader
instruction_reader position it = reader_at position it.parameters it.input

-- the instructions that are left, and the error that ends them if there is one
abbrev pub instruction_items :
    {R O E : Type 0} {a : _} {b : _} {c : _} {d : _} {e : _} {f : _} {g : _} {h : _} {i : _} {j : _}
    {k : _} →
    (R → Position) → CallFrameInstructionIter R O E a b c d e f g h i j k →
    List (Result Instruction Error)
instruction_items position it = items (instructions_left (instruction_reader position it))
