use Rattle.std.proofs.Common.{refl}
use Rattle.cfi_parts.proofs.pointer.BaseAddresses.set_eh_frame_hdr.Goals as goal

pub returns : goal.returns
returns c = refl
