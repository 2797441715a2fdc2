use Rattle.std.proofs.Common.{◌≡◌, ◌-◌}
use Rattle.cfi_read_core.specs.ByteOrder.{is_big}
use Rattle.cfi_read_core.specs.SliceReaders.{slice_position}
use Rattle.cfi_perf.specs.ByteReads.{entries}
use Rattle.cfi_perf.specs.EventEntries.{entry}
use Rattle.cfi_perf.specs.EventTables.{first_with_id, event_table_view}
use Rattle.cfi_perf.proofs.EventSteps.{of_entries}
use Rattle.cfi_perf.proofs.event_table.EventTable.first_with_id.Given as goal

-- the first of those that are left is the first of all
abbrev pub invariant-loop-index : goal.invariant-loop-index
invariant-loop-index l =
    let now = slice_position is_big l.entries in
    of_entries l.self l.id l.index (entries (l.self.count - l.index) (entry l.self.form) now.source now.place)
    ≡ first_with_id (event_table_view l.self) l.id 0 (event_table_view l.self).entries
