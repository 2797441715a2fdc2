use Rattle.std.proofs.Common.{refl}
use Rattle.cfi_read_core.proofs.address.AddressSize.new.Goals as goal

pub returns : goal.returns
returns c = refl
