use Rattle.std.proofs.Common.{◌≡◌, ◌<◌, ℕ, length, get_or, None}
use Rattle.cfi_cores.specs.CoreThreads.{thread_register, thread_view}
use Rattle.cfi_core_stacks.proofs.thread_frames.write_registers.Given as goal

abbrev pub invariant-loop-k : goal.invariant-loop-k
invariant-loop-k l = (length l.known ≡ length l.initial.known) × ((j : ℕ) → j < l.k → get_or l.known j None ≡ thread_register l.machine (thread_view l.thread) j)
