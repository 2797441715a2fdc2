use Rattle.cfi_read_core.proofs.Edits.{last_taken}
use Rattle.cfi_read_core.proofs.array_like.BoxArrayVecArrayLike.pop.Goals as goal

pub returns-clause-some : goal.returns-clause-some
returns-clause-some g c = last_taken _ _ _ (cc)
