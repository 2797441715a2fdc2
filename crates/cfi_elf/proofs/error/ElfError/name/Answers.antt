use Rattle.std.proofs.Common.{ap, sym}
use Rattle.cfi_elf.specs.ErrorNames.{name_of_elf}
use Rattle.cfi_elf.proofs.error.ElfError.name.Goals as goal

pub returns-in-SegmentOutOfBounds : goal.returns-in-SegmentOutOfBounds
returns-in-SegmentOutOfBounds c = sym (ap name_of_elf c.in-SegmentOutOfBounds.is)
