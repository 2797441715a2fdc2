use Rattle.std.proofs.Common.{refl}
use Rattle.cfi_entry.proofs.eh_frame.EhFrame_UnwindSectionPrivate.has_zero_terminator.Goals as goal

pub returns : goal.returns
returns g c = refl
