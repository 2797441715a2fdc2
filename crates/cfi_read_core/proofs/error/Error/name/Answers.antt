use Rattle.std.proofs.Common.{ap, sym}
use Rattle.cfi_read_core.specs.RefusalNames.{name_of}
use Rattle.cfi_read_core.proofs.error.Error.name.Goals as goal

pub returns-in-StackFull : goal.returns-in-StackFull
returns-in-StackFull c = sym (ap name_of c.in-StackFull.is)
