use Rattle.std.proofs.Common.{sym, ap, ◌∙◌, Some}
use Rattle.cfi_read_core.specs.ByteOrder.{is_big}
use Rattle.cfi_read_core.specs.SliceReaders.{slice_over, slice_position}
use Rattle.cfi_perf.specs.EventEntries.{entry}
use Rattle.cfi_perf.proofs.EntrySteps.{entries_end, entry_read, entry_refused}
use Rattle.cfi_perf.proofs.EventSteps.{all_entries, found_here, found_later, of_entries}
use Rattle.cfi_perf.proofs.event_table.EventTable.first_with_id.Goals as goal

pub loop-index-init : goal.loop-index-init
loop-index-init c =
    let self = c.args.self.now in
    ap (of_entries self c.args.id 0)
    (all_entries self.count (entry self.form) (slice_position is_big c.new-entries.result) (slice_over self.attrs.now (is_big self.endian)) c.new-entries.ensures)

pub returns-in_default : goal.returns-in_default
returns-in_default c =
    sym (ap (of_entries c.args.self.now c.args.id c.loop-index.index) (entry_refused _ _ _ _ _ _ c.in_default.ensures.0)) ∙ c.loop-index.invariant

pub returns-then-has_id : goal.returns-then-has_id
returns-then-has_id c =
    let self = c.args.self.now in
    let i = c.loop-index.index in
    let entry = entry_read self.count i (entry self.form) (slice_position is_big c.loop-index.entries) (slice_position is_big c.read_entry.new.input) c.in-Ok.entry c.loop-index-test.true c.in-Ok.ensures in
    ap Some c.numbered_event.ensures
    ∙ (sym (found_here self c.args.id i _ c.in-Ok.entry _ entry (sym c.has_id.ensures ∙ c.if-has_id.true)) ∙ c.loop-index.invariant)

pub loop-index-preserved : goal.loop-index-preserved
loop-index-preserved c =
    let self = c.args.self.now in
    let i = c.loop-index.index in
    let entry = entry_read self.count i (entry self.form) (slice_position is_big c.loop-index.entries) (slice_position is_big c.read_entry.new.input) c.in-Ok.entry c.loop-index-test.true c.in-Ok.ensures in
    sym (found_later self c.args.id i _ c.in-Ok.entry _ entry (sym c.has_id.ensures ∙ c.if-has_id.false)) ∙ c.loop-index.invariant

pub returns : goal.returns
returns c =
    sym (ap (of_entries c.args.self.now c.args.id c.loop-index.index) (entries_end _ _ _ _ _ c.loop-index-test.false)) ∙ c.loop-index.invariant
