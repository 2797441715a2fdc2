use Rattle.std.proofs.Common.{◌≡◌, ◌-◌}
use Rattle.cfi_read_core.specs.ByteOrder.{is_big}
use Rattle.cfi_read_core.specs.SliceReaders.{slice_position}
use Rattle.cfi_perf.specs.EventNames.{after_others, description}
use Rattle.cfi_perf.proofs.event_names.read_after_others.Given as goal

-- what comes after the others that are left is what comes after all
abbrev pub invariant-loop-passed : goal.invariant-loop-passed
invariant-loop-passed l =
    let now = slice_position is_big l.input in
    let first = slice_position is_big l.initial.input in
    (after_others (l.index - l.passed) (description l.size) now.source now.place ≡ after_others l.index (description l.size) first.source first.place) × (now.source ≡ first.source)
