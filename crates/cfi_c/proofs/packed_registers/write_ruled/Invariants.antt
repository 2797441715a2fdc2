use Rattle.std.proofs.Common.{List, drop}
use Rattle.cfi_step.specs.PackedRows.{parts_packed}
use Rattle.cfi_c.specs.declared.register.CfiValue.{CfiValue}
use Rattle.cfi_c.specs.PassedRegisters.{plain_of}
use Rattle.cfi_c.specs.PassedRegisters.{values_of}
use Rattle.cfi_c.specs.PassedRegisters.{AreValues}
use Rattle.cfi_c.proofs.PackedWrites.{AreWrittenBy}
use Rattle.cfi_c.proofs.packed_registers.write_ruled.Given as goal

-- the registers are those by the rules from here on, of the frame whose registers were copied, or were there
abbrev pub invariant-loop-index : goal.invariant-loop-index
invariant-loop-index l =
    ((registers : List CfiValue) → AreValues (values_of registers) l.fn.caller → AreWrittenBy l.memory registers (parts_packed l.row) l.cfa (drop l.index l.rules) l.caller)
    × AreWrittenBy l.memory l.fn.caller (parts_packed l.row) l.cfa (drop l.index l.rules) (plain_of l.caller)
