use Rattle.std.proofs.Common.{refl}
use Rattle.cfi_read_core.proofs.array_like.ArrayVecCopyList.copies_free.Goals as goal

pub returns : goal.returns
returns g c = refl
