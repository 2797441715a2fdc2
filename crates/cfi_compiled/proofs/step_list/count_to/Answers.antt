use Rattle.std.proofs.Common.{◌+◌, ◌-◌, ◌/◌, ◌<◌, length, get_or, sym, subst, arith}
use Rattle.cfi_compiled.specs.declared.step_list.NumberedStep.{NumberedStep}
use Rattle.std.proofs.lemmas.List.{get_or_default}
use Rattle.cfi_compiled.proofs.step_list.count_to.Goals as goal

pub loop-low-init : goal.loop-low-init
loop-low-init c = record {
  order = omega arith;
  inside = omega arith;
  from = λ j d is. absurd (omega (arith, is));
  up_to = λ j d is inside. absurd (omega (arith, is, inside));
}

pub loop-low-preserved : goal.loop-low-preserved
loop-low-preserved c =
    let steps = c.args.steps.now in
    let middle = c.loop-low.low + (c.loop-low.high - c.loop-low.low) / 2 in
    let inside : middle < length steps = omega arith in
    record {
      order = omega arith;
      inside = omega arith;
      from = c.loop-low.invariant.from;
      up_to = λ j d is some.
          subst (λ k. c.args.address < (get_or steps k d).start) (sym is)
          (subst (λ (step : NumberedStep). c.args.address < step.start) (get_or_default steps middle _ d inside) c.if-steps-middle.false);
    }
