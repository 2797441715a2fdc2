use Rattle.std.proofs.Common.{ap, sym}
use Rattle.cfi_parts.specs.Pointers.{direct}
use Rattle.cfi_parts.proofs.pointer.Pointer.direct.Goals as goal

pub returns-in-Indirect : goal.returns-in-Indirect
returns-in-Indirect c = sym (ap direct c.in-Indirect.is)
