use Rattle.std.proofs.Common.{◌≡◌, ◌<◌, ℕ, length, get_or, None}
use Rattle.cfi_core_stacks.specs.NullSteps.{value_in_caller}
use Rattle.cfi_core_stacks.proofs.null_steps.write_registers.Given as goal

abbrev pub invariant-loop-k : goal.invariant-loop-k
invariant-loop-k l = (length l.caller ≡ length l.initial.caller) × ((j : ℕ) → j < l.k → get_or l.caller j None ≡ value_in_caller l.machine l.registers l.cfa j)
