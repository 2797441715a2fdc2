use Rattle.std.proofs.Common.{sym, ap, ◌∙◌, arith}
use Rattle.cfi_read_core.specs.ByteOrder.{is_big}
use Rattle.cfi_read_core.specs.SliceReaders.{slice_position}
use Rattle.cfi_perf.specs.EventEntries.{entry, first_event}
use Rattle.cfi_perf.proofs.EntrySteps.{entries_end, entry_read, entry_refused, first_read, if_alike, no_entries, none_left, one_other, one_same}
use Rattle.cfi_perf.proofs.event_entry.first_event.Goals as goal

pub returns-then-count-eq0 : goal.returns-then-count-eq0
returns-then-count-eq0 c =
    let events = slice_position is_big c.args.events in
    sym (ap first_event (no_entries c.args.count (entry c.args.form) events.source events.place c.if-count-eq0.true))

pub returns-in_default : goal.returns-in_default
returns-in_default c = sym (ap first_event (entry_refused _ _ _ _ _ _ c.in_default.ensures.0))

pub loop-index-init : goal.loop-index-init
loop-index-init c =
    sym (ap first_event (first_read c.args.count (entry c.args.form) (slice_position is_big c.args.events) (slice_position is_big c.read_entry.new.input) c.in-Ok.first (omega arith) c.in-Ok.ensures))

pub returns-in_default-read_entry : goal.returns-in_default-read_entry
returns-in_default-read_entry c =
    sym (none_left c.in-Ok.first _ (entry_refused _ _ _ _ _ _ c.in_default-read_entry.ensures.0)) ∙ c.loop-index.invariant

pub returns-then-not-is_readable_with : goal.returns-then-not-is_readable_with
returns-then-not-is_readable_with c =
    let entry = entry_read c.args.count c.loop-index.index (entry c.args.form) (slice_position is_big c.loop-index.events) (slice_position is_big c.read_entry-in-loop-index.new.input) c.in-Ok-read_entry.other c.loop-index-test.true c.in-Ok-read_entry.ensures in
    sym (ap (if_alike c.in-Ok.first) entry ∙ one_other c.in-Ok.first c.in-Ok-read_entry.other _ (sym c.is_readable_with.ensures ∙ c.if-not-is_readable_with.true)) ∙ c.loop-index.invariant

pub loop-index-preserved : goal.loop-index-preserved
loop-index-preserved c =
    let entry = entry_read c.args.count c.loop-index.index (entry c.args.form) (slice_position is_big c.loop-index.events) (slice_position is_big c.read_entry-in-loop-index.new.input) c.in-Ok-read_entry.other c.loop-index-test.true c.in-Ok-read_entry.ensures in
    sym (ap (if_alike c.in-Ok.first) entry ∙ one_same c.in-Ok.first c.in-Ok-read_entry.other _ (sym c.is_readable_with.ensures ∙ c.if-not-is_readable_with.false)) ∙ c.loop-index.invariant

pub returns : goal.returns
returns c =
    sym (none_left c.in-Ok.first _ (entries_end _ _ _ _ _ (omega (arith, c.loop-index-test.false)))) ∙ c.loop-index.invariant
