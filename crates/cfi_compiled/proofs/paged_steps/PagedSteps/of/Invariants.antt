use Rattle.cfi_compiled.proofs.PagedTables.{IsPaging}
use Rattle.cfi_compiled.proofs.paged_steps.PagedSteps.of.Given as goal

abbrev pub invariant-loop-index : goal.invariant-loop-index
invariant-loop-index l = IsPaging l.steps l.index l.paged
