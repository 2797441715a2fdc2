use Rattle.std.proofs.Common.{refl}
use Rattle.cfi_read_core.proofs.constants.DwEhPe.format.Goals as goal

pub returns : goal.returns
returns c = refl
