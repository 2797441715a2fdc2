-- An FDE of the code as what it means: the place of a reader gives its extent, and an offset is a
-- number.
--     fde_view position number fde      the FDE
--     fde_cie fde      its CIE, as the code has it
--     IsFdeOf, HasCieOf position section fde      the FDE and its CIE are read from the bytes of
--         the section
use Rattle.std.specs.Prelude.{ℕ}
use Rattle.cfi_read_core.specs.ReadFunctions.{Position}
use Rattle.cfi_read_core.specs.ReaderCalls.{extent_of}
use Rattle.cfi_read_core.specs.CallFrameSections.{IsOf}
use Rattle.cfi_entry.specs.Fdes.{Fde}
use Rattle.cfi_entry.specs.EntryViews.{IsCieOf, cie_view}
use Rattle.cfi_entry.specs.declared.cie.CieFields.{CieFields}
use Rattle.cfi_unwind.specs.declared.entry.fde.FdeFields.{FdeFields}

abbrev pub fde_view : {R O : Type 0} → (R → Position) → (O → ℕ) → FdeFields R O → Fde
fde_view position number f = record {
  offset = number f.offset;
  length = number f.length;
  cie = cie_view position number f.cie;
  initial = f.initial_address;
  range = f.address_range;
  lsda = f.lsda;
  instructions = extent_of (position f.instructions);
}

abbrev pub fde_cie : {R O : Type 0} → FdeFields R O → CieFields R O
fde_cie fde = fde.cie

-- the FDE's instructions are part of the section
abbrev pub IsFdeOf : {R O : Type 0} → (R → Position) → Position → FdeFields R O → Type 0
IsFdeOf position section fde = IsOf (position fde.instructions) section

-- and those of its CIE
abbrev pub HasCieOf : {R O : Type 0} → (R → Position) → Position → FdeFields R O → Type 0
HasCieOf position section fde = IsCieOf position section fde.cie
