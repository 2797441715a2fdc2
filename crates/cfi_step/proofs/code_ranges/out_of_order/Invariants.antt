use Rattle.cfi_step.proofs.SortedCode.{AreSortedUpTo}
use Rattle.cfi_step.proofs.code_ranges.out_of_order.Given as goal

-- the items before this one are sorted
abbrev pub invariant-loop-index : goal.invariant-loop-index
invariant-loop-index g l = AreSortedUpTo g.A.HasCode.start g.A.HasCode.end l.list l.index l.end
