use Rattle.std.proofs.Common.{◌≡◌, ◌<◌, ℕ, length, get_or, None}
use Rattle.cfi_processes.specs.SampleStacks.{known_register}
use Rattle.cfi_perf.specs.Samples.{registers_view}
use Rattle.cfi_processes.proofs.sample_stack.write_registers.Given as goal

abbrev pub invariant-loop-k : goal.invariant-loop-k
invariant-loop-k l = (length l.known ≡ length l.initial.known) × ((j : ℕ) → j < l.k → get_or l.known j None ≡ known_register l.machine (registers_view l.registers) j)
