use Rattle.std.proofs.Common.{refl}
use Rattle.cfi_read_core.proofs.array_like.VecArrayLike.limit.Goals as goal

pub returns : goal.returns
returns g c = refl
