use Rattle.std.proofs.Common.{◌≡◌, take}
use Rattle.cfi_state.proofs.table.context.copy_of.Given as goal

abbrev pub invariant-loop-row : goal.invariant-loop-row
invariant-loop-row g l = g.S-Stack-ArrayLike.items l.stack ≡ take l.row-index l.rows
