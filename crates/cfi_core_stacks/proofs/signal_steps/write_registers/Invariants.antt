use Rattle.std.proofs.Common.{◌≡◌, ◌<◌, ℕ, length, get_or, None}
use Rattle.cfi_core_stacks.specs.SignalSteps.{saved_in}
use Rattle.cfi_core_stacks.proofs.signal_steps.write_registers.Given as goal

abbrev pub invariant-loop-k : goal.invariant-loop-k
invariant-loop-k g l = (length l.caller ≡ length l.initial.caller) × ((j : ℕ) → j < l.k → get_or l.caller j None ≡ saved_in (g.M.Memory.number_at l.memory) l.context j)
