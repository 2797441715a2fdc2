use Rattle.std.proofs.Common.{refl}
use Rattle.gimli_cfi.proofs.hdr.header.ParsedEhFrameHdr.eh_frame_ptr.Goals as goal

pub returns : goal.returns
returns g c = refl
