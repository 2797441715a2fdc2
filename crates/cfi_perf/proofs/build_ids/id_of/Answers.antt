use Rattle.std.proofs.Common.{◌∙◌, length, sym}
use Rattle.cfi_read_core.specs.ByteOrder.{is_big}
use Rattle.cfi_perf.specs.RecordFrames.{framed_view}
use Rattle.cfi_perf.proofs.BuildSteps.{entry_here, entry_passed, entry_refused, none_left}
use Rattle.cfi_perf.proofs.build_ids.id_of.Goals as goal

pub returns-then-is_named : goal.returns-then-is_named
returns-then-is_named c =
    c.entry_id.ensures
    ∙ (sym (entry_here (length c.args.table.now) c.loop.counter (is_big c.args.endian) c.args.name.now c.loop.left.now (framed_view c.in-Ok.entry) c.loop-test.true (sym c.in-Ok.ensures) (sym c.is_named.ensures ∙ c.if-is_named.true))
    ∙ c.loop.invariant)

pub returns-in-Err : goal.returns-in-Err
returns-in-Err c =
    sym (entry_refused (length c.args.table.now) c.loop.counter (is_big c.args.endian) c.args.name.now c.loop.left.now c.in-Err.field-0 c.loop-test.true (sym c.in-Err.ensures)) ∙ c.loop.invariant

pub loop-preserved : goal.loop-preserved
loop-preserved c =
    sym (entry_passed (length c.args.table.now) c.loop.counter (is_big c.args.endian) c.args.name.now c.loop.left.now (framed_view c.in-Ok.entry) c.loop-test.true (sym c.in-Ok.ensures) (sym c.is_named.ensures ∙ c.if-is_named.false))
    ∙ c.loop.invariant

pub returns : goal.returns
returns c = sym (none_left (length c.args.table.now) c.loop.counter (is_big c.args.endian) c.args.name.now c.loop.left.now c.loop-test.false) ∙ c.loop.invariant
