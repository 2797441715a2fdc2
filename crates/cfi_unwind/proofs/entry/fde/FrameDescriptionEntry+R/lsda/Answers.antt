use Rattle.std.proofs.Common.{refl}
use Rattle.cfi_unwind.proofs.entry.fde.FrameDescriptionEntry+R.lsda.Goals as goal

pub returns : goal.returns
returns g c = refl
