use Rattle.std.proofs.Common.{rules}
use Rattle.cfi_read_core.proofs.Edits.{as_accepted}
use Rattle.cfi_read_core.proofs.array_like.BoxArrayVecArrayLike.try_push.Goals as goal

pub returns-clause-ok : goal.returns-clause-ok
returns-clause-ok g c = as_accepted _ c.map_err.result _ c.map_err.ensures.variant (search rules depth 2)
