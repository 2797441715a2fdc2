use Rattle.std.proofs.Common.{◌-◌}
use Rattle.cfi_compiled.proofs.PagedPushes.{IsPushing}
use Rattle.cfi_compiled.proofs.paged_steps.PagedSteps.push.Given as goal

abbrev pub invariant-loop-self : goal.invariant-loop-self
invariant-loop-self l =
    IsPushing l.initial.self-inside.lead l.initial.self-inside.first l.initial.self-inside.ends.items l.initial.self-inside.steps.items
    l.self-inside.lead l.self-inside.first l.self-inside.ends.items l.self-inside.steps.items l.pages

abbrev pub decreases-loop-self : goal.decreases-loop-self
decreases-loop-self l = l.pages - l.self-inside.ends.len
