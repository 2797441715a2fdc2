use Rattle.std.proofs.Common.{◌≡◌, ◌-◌}
use Rattle.cfi_read_core.specs.ByteOrder.{is_big}
use Rattle.cfi_read_core.specs.SliceReaders.{slice_position}
use Rattle.cfi_perf.specs.ByteReads.{entries}
use Rattle.cfi_perf.specs.EventEntries.{entry}
use Rattle.cfi_perf.specs.ProfilesAround.{has_ids}
use Rattle.cfi_perf.specs.Sections.{sections_view}
use Rattle.cfi_perf.proofs.AroundSteps.{are_known}
use Rattle.cfi_perf.proofs.sections.Sections.has_ids.Given as goal

-- the ids of those that are left are at hand if those of all are
abbrev pub invariant-loop-index : goal.invariant-loop-index
invariant-loop-index l =
    let now = slice_position is_big l.entries in
    are_known l.self.bytes (entries (l.self.events.count - l.index) (entry l.self.events.form) now.source now.place)
    ≡ has_ids (sections_view l.self)
