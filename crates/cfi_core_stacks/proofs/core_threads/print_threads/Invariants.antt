use Rattle.std.proofs.Common.{ℕ, Option, map, take}
use Rattle.cfi_cores.specs.CoreFiles.{core_view}
use Rattle.cfi_cores.specs.CoreThreads.{thread_view}
use Rattle.cfi_processes.specs.KnownFiles.{known_view}
use Rattle.cfi_processes.specs.Rooms.{IsRoomFor}
use Rattle.cfi_core_stacks.specs.KnownCores.{IsMemoryOf}
use Rattle.cfi_core_stacks.proofs.ThreadLemmas.{Printed}
use Rattle.cfi_core_stacks.proofs.core_threads.print_threads.Given as goal

-- the stacks of the threads so far are printed
abbrev pub invariant-loop-thread : goal.invariant-loop-thread
invariant-loop-thread g l =
    ((all : ℕ → ℕ → Option ℕ) → IsMemoryOf l.memory all →
    Printed l.listing (map known_view l.files) all (core_view l.core) (take l.thread-index (map thread_view l.threads)) (g.W.Write.contents l.initial.output) (g.W.Write.contents l.output))
    × IsRoomFor l.files l.room
