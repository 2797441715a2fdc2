use Rattle.std.proofs.Common.{length, sym, arith}
use Rattle.cfi_read_core.specs.ByteOrder.{is_big}
use Rattle.cfi_perf.specs.RecordFrames.{framed_view}
use Rattle.cfi_perf.proofs.PipeSteps.{all_counted, none_counted, one_counted}
use Rattle.cfi_perf.proofs.pipe.attributes_in.Goals as goal

pub returns-in-Err : goal.returns-in-Err
returns-in-Err c =
    let none = none_counted (length c.args.records.now) c.loop.counter (is_big c.args.endian) c.loop.left.now c.in-Err.field-0 c.loop-test.true (sym c.in-Err.ensures) in
    omega (arith, none, c.loop.invariant.0)

pub loop-preserved : goal.loop-preserved
loop-preserved c =
    let one = one_counted (length c.args.records.now) c.loop.counter (is_big c.args.endian) c.loop.left.now (framed_view c.in-Ok.record) c.loop-test.true (sym c.in-Ok.ensures) in
    (omega (arith, one, c.loop.invariant.0, c.events_of-count.ensures.value), omega (arith, c.loop.invariant.1, c.events_of-count.ensures.bound))

pub returns : goal.returns
returns c =
    let none = all_counted (length c.args.records.now) c.loop.counter (is_big c.args.endian) c.loop.left.now c.loop-test.false in
    omega (arith, none, c.loop.invariant.0)
