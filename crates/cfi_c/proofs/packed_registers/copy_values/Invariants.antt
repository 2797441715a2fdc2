use Rattle.std.proofs.Common.{◌≡◌, ◌<◌, ℕ, None}
use Rattle.std.specs.Prelude.{slice_index_or}
use Rattle.cfi_expression.specs.Frames.{known}
use Rattle.cfi_c.specs.PassedRegisters.{values_of}
use Rattle.cfi_c.specs.PassedRegisters.{written_value}
use Rattle.cfi_c.proofs.packed_registers.copy_values.Given as goal

-- the values before this one are written
abbrev pub invariant-loop-k : goal.invariant-loop-k
invariant-loop-k l = (j : ℕ) → j < l.k → slice_index_or l.caller j (written_value None) ≡ written_value (known (values_of l.registers) j)

abbrev pub invariant-loop-rest : goal.invariant-loop-rest
invariant-loop-rest l = (j : ℕ) → j < l.rest → slice_index_or l.caller j (written_value None) ≡ written_value (known (values_of l.registers) j)
