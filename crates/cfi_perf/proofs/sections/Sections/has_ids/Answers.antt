use Rattle.std.proofs.Common.{sym, ap, ◌∙◌, false, true, ◌≡◌, rules}
use Rattle.std.specs.Option.{is_some}
use Rattle.cfi_read_core.specs.ByteOrder.{is_big}
use Rattle.cfi_read_core.specs.SliceReaders.{slice_over, slice_position}
use Rattle.cfi_perf.specs.EventEntries.{entry}
use Rattle.cfi_perf.specs.FileParts.{parts_at_hand}
use Rattle.cfi_perf.proofs.AroundSteps.{are_known, one_known, one_unknown}
use Rattle.cfi_perf.proofs.EntrySteps.{entries_end, entry_read, entry_refused}
use Rattle.cfi_perf.proofs.EventSteps.{all_entries}
use Rattle.cfi_perf.proofs.sections.Sections.has_ids.Goals as goal

pub loop-index-init : goal.loop-index-init
loop-index-init c =
    let events = c.args.self.now.events in
    ap (are_known c.args.self.now.bytes)
    (all_entries events.count (entry events.form) (slice_position is_big c.new-entries.result) (slice_over events.attrs.now (is_big c.args.self.now.endian)) c.new-entries.ensures)

pub returns-in_default : goal.returns-in_default
returns-in_default c =
    sym (ap (are_known c.args.self.now.bytes) (entry_refused _ _ _ _ _ _ c.in_default.ensures.0)) ∙ c.loop-index.invariant

pub returns-then-is_none : goal.returns-then-is_none
returns-then-is_none c =
    let events = c.args.self.now.events in
    let entry = entry_read events.count c.loop-index.index (entry events.form) (slice_position is_big c.loop-index.entries) (slice_position is_big c.read_entry.new.input) c.in-Ok.entry c.loop-index-test.true c.in-Ok.ensures in
    let none : is_some (parts_at_hand c.args.self.now.bytes c.in-Ok.entry.ids) ≡ false = search rules in
    sym (one_unknown c.args.self.now.bytes _ c.in-Ok.entry _ entry none) ∙ c.loop-index.invariant

pub loop-index-preserved : goal.loop-index-preserved
loop-index-preserved c =
    let events = c.args.self.now.events in
    let entry = entry_read events.count c.loop-index.index (entry events.form) (slice_position is_big c.loop-index.entries) (slice_position is_big c.read_entry.new.input) c.in-Ok.entry c.loop-index-test.true c.in-Ok.ensures in
    let some : is_some (parts_at_hand c.args.self.now.bytes c.in-Ok.entry.ids) ≡ true = search rules in
    sym (one_known c.args.self.now.bytes _ c.in-Ok.entry _ entry some) ∙ c.loop-index.invariant

pub returns : goal.returns
returns c =
    sym (ap (are_known c.args.self.now.bytes) (entries_end _ _ _ _ _ c.loop-index-test.false)) ∙ c.loop-index.invariant
