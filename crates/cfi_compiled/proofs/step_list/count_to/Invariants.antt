use Rattle.std.proofs.Common.{◌-◌}
use Rattle.cfi_compiled.proofs.SplitSteps.{AreSplit}
use Rattle.cfi_compiled.proofs.step_list.count_to.Given as goal

abbrev pub invariant-loop-low : goal.invariant-loop-low
invariant-loop-low l = AreSplit l.steps l.address l.low l.high

abbrev pub decreases-loop-low : goal.decreases-loop-low
decreases-loop-low l = l.high - l.low
