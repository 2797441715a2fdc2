use Rattle.std.proofs.Common.{◌∙◌, ◌+◌, ◌-◌, ◌^◌, ap, map}
use Rattle.std.specs.Prelude.{min}
use Rattle.cfi_perf.specs.declared.record.Lost.{Lost}
use Rattle.cfi_perf.specs.Events.{record_view}
use Rattle.cfi_perf.specs.Recordings.{total}
use Rattle.cfi_perf.proofs.LostSums.{below, both_are, none_left, one_more}
use Rattle.cfi_perf.proofs.recording.lost_in.Goals as goal

pub loop-record-preserved : goal.loop-record-preserved
loop-record-preserved c =
    let records = c.args.records.now in
    let i = c.loop-record.record-index in
    let found = c.saturating_add-found.ensures ∙ ap (λ (l : Lost). min (c.loop-record.found + l.records) (2 ^ 64 - 1)) c.lost_of-lost.ensures in
    let samples = c.saturating_add-samples.ensures ∙ ap (λ (l : Lost). min (c.loop-record.samples + l.samples) (2 ^ 64 - 1)) c.lost_of-lost.ensures in (
      one_more (λ l. l.records) records i c.record-item.result c.loop-record.found c.saturating_add-found.result c.record-item.is c.loop-record-test.true found c.loop-record.invariant.0,
      below c.saturating_add-found.result (c.loop-record.found + c.lost_of-lost.result.records) c.saturating_add-found.ensures,
      one_more (λ l. l.samples) records i c.record-item.result c.loop-record.samples c.saturating_add-samples.result c.record-item.is c.loop-record-test.true samples c.loop-record.invariant.2,
      below c.saturating_add-samples.result (c.loop-record.samples + c.lost_of-lost.result.samples) c.saturating_add-samples.ensures,
    )

pub returns : goal.returns
returns c =
    let records = c.args.records.now in
    let i = c.loop-record.record-index in
    both_are _ _ (total (λ l. l.records) (map record_view records)) (total (λ l. l.samples) (map record_view records))
    (none_left (λ l. l.records) records i c.loop-record.found c.loop-record-test.false c.loop-record.invariant.1 c.loop-record.invariant.0)
    (none_left (λ l. l.samples) records i c.loop-record.samples c.loop-record-test.false c.loop-record.invariant.3 c.loop-record.invariant.2)
