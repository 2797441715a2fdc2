use Rattle.std.proofs.Common.{ap, sym}
use Rattle.cfi_elf.specs.ElfFiles.{address_size_of}
use Rattle.cfi_elf.proofs.elf_file.ElfFile.address_size.Goals as goal

pub returns-in-Elf32 : goal.returns-in-Elf32
returns-in-Elf32 c = sym (ap address_size_of c.in-Elf32.is)
