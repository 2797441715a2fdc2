use Rattle.std.proofs.Common.{◌+◌, ◌-◌, ◌/◌, ◌<◌, length, subst, arith}
use Rattle.cfi_compiled.specs.declared.paged_steps.PagedStep.{PagedStep}
use Rattle.cfi_compiled.specs.PagedSteps.{step_offset}
use Rattle.std.proofs.lemmas.List.{get_or_default}
use Rattle.cfi_compiled.proofs.paged_steps.count_up_to.Goals as goal

pub loop-low-preserved : goal.loop-low-preserved
loop-low-preserved c =
    let steps = c.args.steps.now in
    let middle = c.loop-low.low + (c.loop-low.high - c.loop-low.low) / 2 in
    let inside : middle < length steps = omega arith in
    record {
      first = c.loop-low.invariant.first;
      order = omega arith;
      last = omega arith;
      from = c.loop-low.invariant.from;
      up_to = λ d some.
          subst (λ (step : PagedStep). c.args.offset < step_offset step) (get_or_default steps middle _ d inside) (rw c.offset.ensures at c.if-offset.false);
    }
