use Rattle.std.proofs.Common.{ap, sym}
use Rattle.cfi_elf.specs.Segments.{is_wanted}
use Rattle.cfi_elf.proofs.segments.is_wanted.Goals as goal

pub returns-in-OfType : goal.returns-in-OfType
returns-in-OfType c = sym (ap (λ wanted. is_wanted wanted c.args.header.now) c.in-OfType.is)
