use Rattle.std.proofs.Common.{◌≡◌, take, length}
use Rattle.cfi_read_core.proofs.array_like.shorten.Given as goal

-- the items before `count` stay
abbrev pub invariant-loop-list : goal.invariant-loop-list
invariant-loop-list g l = take l.count (g.A.ArrayLike.items l.list) ≡ take l.count (g.A.ArrayLike.items l.initial.list)

abbrev pub decreases-loop-list : goal.decreases-loop-list
decreases-loop-list g l = length (g.A.ArrayLike.items l.list)
