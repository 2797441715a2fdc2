use Rattle.std.proofs.Common.{refl}
use Rattle.cfi_entry.proofs.debug_frame.DebugFrame_UnwindSectionPrivate.has_address_and_segment_sizes.Goals as goal

pub returns : goal.returns
returns g c = refl
