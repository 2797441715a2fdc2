use Rattle.std.proofs.Common.{◌-◌}
use Rattle.cfi_compiled.proofs.SplitSteps.{AreSplitIn}
use Rattle.cfi_compiled.proofs.paged_steps.count_up_to.Given as goal

abbrev pub invariant-loop-low : goal.invariant-loop-low
invariant-loop-low l = AreSplitIn l.steps l.begin l.end l.offset l.low l.high

abbrev pub decreases-loop-low : goal.decreases-loop-low
decreases-loop-low l = l.high - l.low
