use Rattle.std.proofs.Common.{◌-◌}
use Rattle.cfi_compiled.proofs.SplitSteps.{ArePassed}
use Rattle.cfi_compiled.proofs.paged_steps.pages_passed.Given as goal

abbrev pub invariant-loop-low : goal.invariant-loop-low
invariant-loop-low l = ArePassed l.ends l.index l.low l.high

abbrev pub decreases-loop-low : goal.decreases-loop-low
decreases-loop-low l = l.high - l.low
