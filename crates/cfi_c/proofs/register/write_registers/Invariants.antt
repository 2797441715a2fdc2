use Rattle.std.proofs.Common.{◌≡◌, ◌<◌, ℕ}
use Rattle.std.specs.Prelude.{None, slice_index_or}
use Rattle.cfi_expression.specs.Frames.{known}
use Rattle.cfi_c.specs.PassedRegisters.{written_value}
use Rattle.cfi_c.proofs.register.write_registers.Given as goal

-- the values before this one are written
abbrev pub invariant-loop-k : goal.invariant-loop-k
invariant-loop-k l = (j : ℕ) → j < l.k → slice_index_or l.registers j (written_value None) ≡ written_value (known l.found j)
