use Rattle.std.proofs.Common.{◌∙◌, length, sym}
use Rattle.std.proofs.lemmas.Bool.{eq-eqb, ne_eqb}
use Rattle.cfi_read_core.specs.ByteOrder.{is_big}
use Rattle.cfi_perf.specs.RecordFrames.{framed_view}
use Rattle.cfi_perf.proofs.PipeSteps.{build_here, build_later, build_refused, no_build}
use Rattle.cfi_perf.proofs.pipe.build_ids_in.Goals as goal

pub returns-then-record-eq-PERF_RECORD_HEADER_BUILD_ID : goal.returns-then-record-eq-PERF_RECORD_HEADER_BUILD_ID
returns-then-record-eq-PERF_RECORD_HEADER_BUILD_ID c =
    sym (build_here (length c.args.records.now) c.loop.counter (is_big c.args.endian) c.loop.left.now (framed_view c.in-Ok.record) c.loop-test.true (sym c.in-Ok.ensures) (eq-eqb c.in-Ok.record.header.kind 67 c.if-record-eq-PERF_RECORD_HEADER_BUILD_ID.true)) ∙ c.loop.invariant

pub returns-in-Err : goal.returns-in-Err
returns-in-Err c =
    sym (build_refused (length c.args.records.now) c.loop.counter (is_big c.args.endian) c.loop.left.now c.in-Err.field-0 c.loop-test.true (sym c.in-Err.ensures)) ∙ c.loop.invariant

pub loop-preserved : goal.loop-preserved
loop-preserved c =
    sym (build_later (length c.args.records.now) c.loop.counter (is_big c.args.endian) c.loop.left.now (framed_view c.in-Ok.record) c.loop-test.true (sym c.in-Ok.ensures) (ne_eqb c.in-Ok.record.header.kind 67 c.if-record-eq-PERF_RECORD_HEADER_BUILD_ID.false)) ∙ c.loop.invariant

pub returns : goal.returns
returns c = sym (no_build (length c.args.records.now) c.loop.counter (is_big c.args.endian) c.loop.left.now c.loop-test.false) ∙ c.loop.invariant
