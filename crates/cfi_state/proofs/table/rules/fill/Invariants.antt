use Rattle.std.proofs.Common.{◌≡◌, take}
use Rattle.cfi_state.proofs.table.rules.fill.Given as goal

abbrev pub invariant-loop-index : goal.invariant-loop-index
invariant-loop-index g l = g.A.ArrayLike.items l.list ≡ take l.index l.pairs
