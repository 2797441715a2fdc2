use Rattle.std.proofs.Common.{◌∙◌, ap, length, sym, List, ℕ, Some}
use Rattle.cfi_read_core.specs.ByteOrder.{is_big}
use Rattle.cfi_perf.specs.RecordFrames.{framed_view}
use Rattle.cfi_perf.proofs.PipeSteps.{no_section, section_here, section_later, section_refused}
use Rattle.cfi_perf.proofs.pipe.feature.Goals as goal

pub returns-then-is_feature : goal.returns-then-is_feature
returns-then-is_feature c =
    ap (λ (l : List ℕ). Some l) c.bytes_from.ensures
    ∙ (sym (section_here (length c.args.records.now) c.loop.counter (is_big c.args.endian) c.loop.left.now c.args.number (framed_view c.in-Ok.record) c.loop-test.true (sym c.in-Ok.ensures) (sym c.is_feature.ensures ∙ c.if-is_feature.true))
    ∙ c.loop.invariant)

pub returns-in-Err : goal.returns-in-Err
returns-in-Err c =
    sym (section_refused (length c.args.records.now) c.loop.counter (is_big c.args.endian) c.loop.left.now c.args.number c.in-Err.field-0 c.loop-test.true (sym c.in-Err.ensures)) ∙ c.loop.invariant

pub loop-preserved : goal.loop-preserved
loop-preserved c =
    sym (section_later (length c.args.records.now) c.loop.counter (is_big c.args.endian) c.loop.left.now c.args.number (framed_view c.in-Ok.record) c.loop-test.true (sym c.in-Ok.ensures) (sym c.is_feature.ensures ∙ c.if-is_feature.false))
    ∙ c.loop.invariant

pub returns : goal.returns
returns c = sym (no_section (length c.args.records.now) c.loop.counter (is_big c.args.endian) c.loop.left.now c.args.number c.loop-test.false) ∙ c.loop.invariant
