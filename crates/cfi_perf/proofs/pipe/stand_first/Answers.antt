use Rattle.std.proofs.Common.{◌-◌, ℕ, List, length, sym, ap, arith}
use Rattle.std.proofs.lemmas.Bool.{eq-eqb, ne_eqb}
use Rattle.cfi_read_core.specs.ByteOrder.{is_big}
use Rattle.cfi_read_core.specs.SliceReaders.{slice_over, slice_position}
use Rattle.cfi_perf.specs.declared.event_entry.EventEntry.{EventEntry}
use Rattle.cfi_perf.specs.EventEntries.{pipe_event}
use Rattle.cfi_perf.specs.Pipes.{pipe_entries}
use Rattle.cfi_perf.proofs.EntrySteps.{entries_end, entry_read, entry_refused}
use Rattle.cfi_perf.proofs.EventSteps.{all_entries}
use Rattle.cfi_perf.proofs.pipe.stand_first.Goals as goal

abbrev count_of : List EventEntry → ℕ
count_of entries = length entries

pub loop-index-init : goal.loop-index-init
loop-index-init c =
    let all = ap count_of (all_entries c.args.count pipe_event (slice_position is_big c.new-entries.result) (slice_over c.args.records.now (is_big c.args.endian)) c.new-entries.ensures) in
    (omega (arith, all), omega arith)

pub returns-in-Err : goal.returns-in-Err
returns-in-Err c =
    let none = ap count_of (entry_refused (c.args.count - c.loop-index.index) pipe_event (slice_position is_big c.loop-index.entries).source (slice_position is_big c.loop-index.entries).place _ c.in-Err.field-0 c.in-Err.ensures.0) in
    sym (ne_eqb (length (pipe_entries (is_big c.args.endian) c.args.records.now c.args.count)) c.args.count (λ same. omega (arith, none, c.loop-index.invariant.0, c.loop-index-test.true, same)))

pub loop-index-preserved : goal.loop-index-preserved
loop-index-preserved c =
    let entry = ap count_of (entry_read c.args.count c.loop-index.index pipe_event (slice_position is_big c.loop-index.entries) (slice_position is_big c.read_entry.new.input) c.in-Ok.field-0 c.loop-index-test.true c.in-Ok.ensures) in
    (omega (arith, entry, c.loop-index.invariant.0), omega (arith, c.loop-index-test.true))

pub returns : goal.returns
returns c =
    let none = ap count_of (entries_end c.args.count c.loop-index.index pipe_event (slice_position is_big c.loop-index.entries).source (slice_position is_big c.loop-index.entries).place c.loop-index-test.false) in
    sym (eq-eqb (length (pipe_entries (is_big c.args.endian) c.args.records.now c.args.count)) c.args.count (omega (arith, none, c.loop-index.invariant.0, c.loop-index.invariant.1, c.loop-index-test.false)))
