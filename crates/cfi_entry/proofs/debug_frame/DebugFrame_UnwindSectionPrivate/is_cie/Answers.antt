use Rattle.std.proofs.Common.{ap, sym}
use Rattle.std.specs.Prelude.{◌==◌}
use Rattle.cfi_read_core.specs.declared.common.Format.{Format}
use Rattle.cfi_read_core.specs.CallFrameSections.{DebugFrame, cie_id}
use Rattle.cfi_entry.proofs.debug_frame.DebugFrame_UnwindSectionPrivate.is_cie.Goals as goal

pub returns-in-Dwarf64 : goal.returns-in-Dwarf64
returns-in-Dwarf64 g c = ap (λ (format : Format). c.args.id == cie_id DebugFrame format) (sym c.in-Dwarf64.is)
