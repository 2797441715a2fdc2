-- The instructions of entries (DWARF 5 section 6.4.2).
use Rattle.std.specs.Prelude.{ℕ, Option, None}
use Rattle.cfi_read_core.specs.ReadFunctions.{Extent, Readings}
use Rattle.cfi_parts.specs.Instructions.{Instruction, InstructionContext, instructions}
use Rattle.cfi_entry.specs.Sections.{Section, pointer_context}
use Rattle.cfi_entry.specs.Cies.{Cie}
use Rattle.cfi_entry.specs.Fdes.{Fde, address_encoding_of}

abbrev pub instruction_context : Section → ℕ → Option ℕ → InstructionContext
instruction_context section size encoding = record {
  pointers = pointer_context section None size;
  address_encoding = encoding;
  vendor = section.vendor;
}

-- those in an extent of the section, where addresses have this size and this encoding
abbrev pub instructions_in : Section → ℕ → Option ℕ → Extent → Readings Instruction
instructions_in section size encoding extent =
    instructions (instruction_context section size encoding) extent section.source

-- the addresses in a CIE's instructions are plain
abbrev pub cie_instructions : Section → Cie → Readings Instruction
cie_instructions section cie =
    instructions_in section cie.address_size None cie.initial_instructions

-- those in an FDE's are encoded as its CIE says
abbrev pub fde_instructions : Section → Fde → Readings Instruction
fde_instructions section fde =
    instructions_in section fde.cie.address_size (address_encoding_of fde.cie.augmentation)
    fde.instructions
