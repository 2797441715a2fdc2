use Rattle.cfi_read_core.proofs.array_like.BoxArrayVecArrayLike.clear.Goals as goal

pub returns : goal.returns
returns g c = cc
