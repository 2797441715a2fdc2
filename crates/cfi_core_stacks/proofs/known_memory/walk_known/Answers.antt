use Rattle.std.proofs.Common.{ℕ, Option, map, subst}
use Rattle.cfi_cores.specs.CoreThreads.{thread_view}
use Rattle.cfi_processes.specs.KnownFiles.{known_view}
use Rattle.cfi_core_stacks.specs.ThreadWalks.{IsThreadWalked}
use Rattle.cfi_core_stacks.proofs.KnownLemmas.{memory_is}
use Rattle.cfi_core_stacks.proofs.known_memory.walk_known.Goals as goal

pub returns-in-Whole-clause-walked : goal.returns-in-Whole-clause-walked
returns-in-Whole-clause-walked c = λ all is.
    let process = c.args.process.now in
    subst (λ (all : ℕ → ℕ → Option ℕ). IsThreadWalked process.machine (map known_view process.code.files.now) process.code.mappings.now all (thread_view c.args.thread.now) c.walk_thread.result c.walk_thread.new.room.frames.items)
    (memory_is c.args.memory.now c.in-Whole.memory all c.in-Whole.is is) c.walk_thread.ensures.walked
