-- The code's parameters for reading pointers and instructions.
use Rattle.std.specs.Prelude.{◌≤◌}
use Rattle.std.specs.Option.{option_map}
use Rattle.cfi_read_core.specs.AddressSizes.{size_in_bytes}
use Rattle.cfi_read_core.specs.ReadFunctions.{Position}
use Rattle.cfi_parts.specs.declared.pointer.PointerEncodingParameters.{PointerEncodingParameters}
use Rattle.cfi_parts.specs.declared.instruction.parse.InstructionParameters.{InstructionParameters}
use Rattle.cfi_parts.specs.Pointers.{PointerContext}
use Rattle.cfi_parts.specs.Instructions.{InstructionContext}
use Rattle.cfi_parts.specs.InstructionReaders.{InstructionReader}

-- the parameters for reading pointers
abbrev pub pointer_context :
    {R : Type 0} → (R → Position) → PointerEncodingParameters R → PointerContext
pointer_context position p = record {
  bases = p.bases.now;
  function = p.func_base;
  size = size_in_bytes p.address_size;
  section = (position p.section.now).place;
}

-- the parameters for reading instructions
abbrev pub instruction_context :
    {R : Type 0} → (R → Position) → InstructionParameters R → InstructionContext
instruction_context position p = record {
  pointers = pointer_context position p.pointers;
  address_encoding = option_map (λ e. e.0) p.address_encoding;
  vendor = p.vendor;
}

-- the input is at the start of the section of the pointers or past it
abbrev pub NotBeforeSection :
    {R : Type 0} → (R → Position) → PointerEncodingParameters R → R → Type 0
NotBeforeSection position p input = (position p.section.now).place ≤ (position input).place

-- an input from which instructions are read with these parameters
abbrev pub reader_at :
    {R : Type 0} → (R → Position) → InstructionParameters R → R → InstructionReader
reader_at position p input =
    record { context = instruction_context position p; position = position input }
