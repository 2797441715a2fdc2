use Rattle.std.proofs.Common.{arith}
use Rattle.cfi_compiled.proofs.PagedLists.{passed_is}
use Rattle.cfi_compiled.proofs.paged_steps.pages_passed.Goals as goal

pub returns : goal.returns
returns c = passed_is _ _ _ _ c.loop-low.invariant (omega arith)
