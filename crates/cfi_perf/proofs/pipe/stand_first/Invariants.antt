use Rattle.std.proofs.Common.{◌≡◌, ◌≤◌, ◌+◌, ◌-◌, length}
use Rattle.cfi_read_core.specs.ByteOrder.{is_big}
use Rattle.cfi_read_core.specs.SliceReaders.{slice_position}
use Rattle.cfi_perf.specs.EventEntries.{pipe_event}
use Rattle.cfi_perf.specs.Pipes.{pipe_entries}
use Rattle.cfi_perf.specs.ByteReads.{entries}
use Rattle.cfi_perf.proofs.pipe.stand_first.Given as goal

-- those that were read and those that can be read are all
abbrev pub invariant-loop-index : goal.invariant-loop-index
invariant-loop-index l =
    let now = slice_position is_big l.entries in
    (l.index + length (entries (l.count - l.index) pipe_event now.source now.place) ≡ length (pipe_entries (is_big l.fn.endian) l.fn.records l.count))
    × (l.index ≤ l.count)
