use Rattle.std.proofs.Common.{◌≡◌, length, map, take}
use Rattle.cfi_c.specs.PassedRegisters.{known_value}
use Rattle.cfi_c.proofs.register.write_values.Given as goal

abbrev pub invariant-loop-k : goal.invariant-loop-k
invariant-loop-k l = (length l.values ≡ length l.initial.values) × (take l.k l.values ≡ map known_value (take l.k l.registers))
