use Rattle.std.proofs.Common.{refl}
use Rattle.cfi_entry.proofs.eh_frame.EhFrameFrom.from.Goals as goal

pub returns : goal.returns
returns g c = (refl, (c.new.ensures, refl))
