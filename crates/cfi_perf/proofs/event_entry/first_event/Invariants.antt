use Rattle.std.proofs.Common.{◌≡◌, ◌-◌}
use Rattle.cfi_read_core.specs.ByteOrder.{is_big}
use Rattle.cfi_read_core.specs.SliceReaders.{slice_position}
use Rattle.cfi_perf.specs.ByteReads.{entries}
use Rattle.cfi_perf.specs.EventEntries.{entry, first_event}
use Rattle.cfi_perf.proofs.EntrySteps.{if_alike}
use Rattle.cfi_perf.proofs.event_entry.first_event.Given as goal

-- the events that are left give what all give
abbrev pub invariant-loop-index : goal.invariant-loop-index
invariant-loop-index l =
    if_alike l.first (entries (l.count - l.index) (entry l.form) (slice_position is_big l.events).source (slice_position is_big l.events).place)
    ≡ first_event (entries l.count (entry l.form) (slice_position is_big l.fn.events).source (slice_position is_big l.fn.events).place)
