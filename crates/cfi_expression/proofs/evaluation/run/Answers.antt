use Rattle.std.proofs.Common.{◌≡◌, ◌∙◌, Err, rules, refl, sym}
use Rattle.cfi_expression.specs.Frames.{frame_view}
use Rattle.cfi_expression.proofs.Running.{all_done, none_left, one_done, one_failed}
use Rattle.cfi_expression.proofs.evaluation.run.Goals as goal

pub returns-then-left-eq0 : goal.returns-then-left-eq0
returns-then-left-eq0 g c =
    none_left (frame_view g.M.Memory.number_at c.args.frame.now) (g.R.Reader.position c.args.expression.now) (g.R.Reader.position c.loop-input.input) c.loop-input.invariant.0
    c.loop-input.left c.loop-input.stack _ c.loop-input.invariant.1 (sym c.is_empty.ensures ∙ c.loop-input-test.true) c.if-left-eq0.true

pub loop-input-preserved : goal.loop-input-preserved
loop-input-preserved g c = (
  c.in_ok-step.ensures.source,
  one_done (frame_view g.M.Memory.number_at c.args.frame.now) (g.R.Reader.position c.args.expression.now) (g.R.Reader.position c.loop-input.input) c.loop-input.invariant.0
      c.loop-input.left c.loop-input.stack _ c.loop-input.invariant.1 _ _ (sym c.is_empty.ensures ∙ c.loop-input-test.true) c.if-left-eq0.false c.in_ok-step.ensures.acts,
)

pub returns-in_err-step : goal.returns-in_err-step
returns-in_err-step g c =
    let gives : c.from_residual.result ≡ Err c.in_err-step.field-0.0 = search rules in
    one_failed (frame_view g.M.Memory.number_at c.args.frame.now) (g.R.Reader.position c.args.expression.now) (g.R.Reader.position c.loop-input.input) c.loop-input.invariant.0
    c.loop-input.left c.loop-input.stack _ c.loop-input.invariant.1 _ _ _ gives (sym c.is_empty.ensures ∙ c.loop-input-test.true) c.if-left-eq0.false c.in_err-step.ensures.acts

pub returns : goal.returns
returns g c =
    all_done (frame_view g.M.Memory.number_at c.args.frame.now) (g.R.Reader.position c.args.expression.now) (g.R.Reader.position c.loop-input.input) c.loop-input.invariant.0
    c.loop-input.left c.loop-input.stack _ c.loop-input.invariant.1 c.pop.result c.pop.new.self (sym c.is_empty.ensures ∙ c.loop-input-test.false) c.pop.ensures

pub loop-input-init : goal.loop-input-init
loop-input-init g c = (refl, refl)
