use Rattle.cfi_entry.proofs.EntryKinds.{found_or}
use Rattle.cfi_entry.proofs.eh_frame.EhFrame_UnwindSectionPrivate.resolve_cie_offset.Goals as goal

pub returns : goal.returns
returns g c = found_or _ _ _ c.checked_sub.ensures
