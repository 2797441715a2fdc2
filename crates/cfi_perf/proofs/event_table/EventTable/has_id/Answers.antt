use Rattle.std.proofs.Common.{sym, ap, ◌∙◌, ◌/◌, length}
use Rattle.std.specs.Int.{w64}
use Rattle.cfi_read_core.specs.ByteOrder.{is_big}
use Rattle.cfi_read_core.specs.Numbers.{unsigned}
use Rattle.cfi_read_core.specs.SliceReaders.{slice_over, slice_position}
use Rattle.cfi_perf.specs.FileParts.{parts_at_hand}
use Rattle.cfi_perf.proofs.EntrySteps.{entries_end, entry_read, entry_refused}
use Rattle.cfi_perf.proofs.EventSteps.{all_entries, has_number, ids_found, number_here, number_later}
use Rattle.cfi_perf.proofs.event_table.EventTable.has_id.Goals as goal

pub loop-index-init : goal.loop-index-init
loop-index-init c =
    let self = c.args.self.now in
    let bytes = c.in-Some.bytes.now in
    ap (has_number c.args.id) (all_entries (length bytes / 8) (unsigned w64) (slice_position is_big c.new-ids.result) (slice_over bytes (is_big self.endian)) c.new-ids.ensures)
    ∙ ids_found (is_big self.endian) (parts_at_hand self.bytes) c.args.entry.now c.args.id bytes c.in-Some.ensures

pub returns-in_default-read_u64 : goal.returns-in_default-read_u64
returns-in_default-read_u64 c = sym (ap (has_number c.args.id) (entry_refused _ _ _ _ _ _ c.in_default-read_u64.ensures.0)) ∙ c.loop-index.invariant

pub returns-then-known-id : goal.returns-then-known-id
returns-then-known-id c =
    let entry = entry_read _ c.loop-index.index (unsigned w64) (slice_position is_big c.loop-index.ids) (slice_position is_big c.read_u64.new.self) c.in-Ok.known c.loop-index-test.true c.in-Ok.ensures in
    sym (ap (has_number c.args.id) entry ∙ number_here c.args.id c.in-Ok.known _ c.if-known-id.true) ∙ c.loop-index.invariant

pub loop-index-preserved : goal.loop-index-preserved
loop-index-preserved c =
    let entry = entry_read _ c.loop-index.index (unsigned w64) (slice_position is_big c.loop-index.ids) (slice_position is_big c.read_u64.new.self) c.in-Ok.known c.loop-index-test.true c.in-Ok.ensures in
    sym (ap (has_number c.args.id) entry ∙ number_later c.args.id c.in-Ok.known _ c.if-known-id.false) ∙ c.loop-index.invariant

pub returns : goal.returns
returns c = sym (ap (has_number c.args.id) (entries_end _ _ _ _ _ c.loop-index-test.false)) ∙ c.loop-index.invariant
