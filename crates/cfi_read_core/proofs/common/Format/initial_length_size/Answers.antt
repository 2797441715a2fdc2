use Rattle.std.proofs.Common.{sym, ap}
use Rattle.cfi_read_core.specs.Numbers.{initial_length_size}
use Rattle.cfi_read_core.proofs.common.Format.initial_length_size.Goals as goal

pub returns-in-Dwarf64 : goal.returns-in-Dwarf64
returns-in-Dwarf64 c = sym (ap initial_length_size c.in-Dwarf64.is)
