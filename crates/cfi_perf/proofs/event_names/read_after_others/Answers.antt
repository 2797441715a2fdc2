use Rattle.std.proofs.Common.{refl, sym, ◌∙◌}
use Rattle.cfi_read_core.specs.ByteOrder.{is_big}
use Rattle.cfi_read_core.specs.SliceReaders.{slice_position}
use Rattle.cfi_perf.specs.EventNames.{description}
use Rattle.cfi_perf.proofs.EventSteps.{all_others, after_all, other_read, other_refused}
use Rattle.cfi_perf.proofs.event_names.read_after_others.Goals as goal

pub loop-passed-init : goal.loop-passed-init
loop-passed-init c =
    let first = slice_position is_big c.args.input.now in
    (all_others c.args.index (description c.args.size) first.source first.place, refl)

pub returns-in-Err : goal.returns-in-Err
returns-in-Err c = (
  sym c.loop-passed.invariant.0 ∙ other_refused _ _ _ _ _ _ _ c.loop-passed-test.true c.in-Err.ensures.0,
  c.in-Err.ensures.1 ∙ c.loop-passed.invariant.1,
)

pub loop-passed-preserved : goal.loop-passed-preserved
loop-passed-preserved c = (
  other_read c.args.index c.loop-passed.passed (description c.args.size) (slice_position is_big c.loop-passed.input) (slice_position is_big c.read_description.new.input) _ c.loop-passed-test.true c.in-Ok.ensures
      ∙ c.loop-passed.invariant.0,
  c.in-Ok.ensures.1 ∙ c.loop-passed.invariant.1,
)

pub returns : goal.returns
returns c = (
  sym c.loop-passed.invariant.0 ∙ (after_all _ _ _ _ _ c.loop-passed-test.false ∙ c.read_description-2.ensures.0),
  c.read_description-2.ensures.1 ∙ c.loop-passed.invariant.1,
)
