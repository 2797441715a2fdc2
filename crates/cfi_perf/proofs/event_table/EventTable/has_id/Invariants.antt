use Rattle.std.proofs.Common.{◌≡◌, ◌-◌}
use Rattle.std.specs.Int.{w64}
use Rattle.cfi_read_core.specs.ByteOrder.{is_big}
use Rattle.cfi_read_core.specs.Numbers.{unsigned}
use Rattle.cfi_read_core.specs.SliceReaders.{slice_position}
use Rattle.cfi_perf.specs.ByteReads.{entries}
use Rattle.cfi_perf.specs.EventTables.{has_id, known_event}
use Rattle.cfi_perf.specs.FileParts.{parts_at_hand}
use Rattle.cfi_perf.proofs.EventSteps.{has_number}
use Rattle.cfi_perf.proofs.event_table.EventTable.has_id.Given as goal

-- the id is among the numbers that are left if it is among all
abbrev pub invariant-loop-index : goal.invariant-loop-index
invariant-loop-index l =
    let now = slice_position is_big l.ids in
    has_number l.id (entries (l.count - l.index) (unsigned w64) now.source now.place) ≡ has_id (known_event (is_big l.self.endian) (parts_at_hand l.self.bytes) l.entry) l.id
