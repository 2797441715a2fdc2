use Rattle.std.proofs.Common.{◌<◌, ◌^◌, map}
use Rattle.cfi_perf.specs.Events.{record_view}
use Rattle.cfi_perf.proofs.LostSums.{IsTotal}
use Rattle.cfi_perf.proofs.recording.lost_in.Given as goal

-- what was found and what the others say is the total of all, and has 64 bits
abbrev pub invariant-loop-record : goal.invariant-loop-record
invariant-loop-record l =
    let all = map record_view l.records in
    IsTotal (λ lost. lost.records) all l.record-index l.found × (l.found < 2 ^ 64) × IsTotal (λ lost. lost.samples) all l.record-index l.samples × (l.samples < 2 ^ 64)
