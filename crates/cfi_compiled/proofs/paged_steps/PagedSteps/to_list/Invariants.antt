use Rattle.std.proofs.Common.{◌≡◌, ◌-◌, length, take}
use Rattle.cfi_compiled.proofs.paged_steps.PagedSteps.to_list.Given as goal

abbrev pub invariant-loop-step : goal.invariant-loop-step
invariant-loop-step l = l.list.items ≡ take (length l.list.items) l.self.steps

abbrev pub decreases-loop-step : goal.decreases-loop-step
decreases-loop-step l = length l.self.steps - length l.list.items
