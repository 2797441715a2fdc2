use Rattle.std.proofs.Common.{◌≡◌, ◌+◌, ◌++◌, drop, length, map, take}
use Rattle.cfi_c.specs.PassedRegisters.{written_value}
use Rattle.cfi_c.proofs.unwind_registers.write_registers.Given as goal

-- the registers before this one are written, and nothing behind all of them
abbrev pub invariant-loop-k : goal.invariant-loop-k
invariant-loop-k l =
    (length l.values ≡ length l.initial.values)
    × (take (l.first + l.k) l.values ≡ take l.first l.initial.values ++ map written_value (take l.k l.registers))
    × (drop (l.first + length l.registers) l.values ≡ drop (l.first + length l.registers) l.initial.values)
