use Rattle.std.proofs.Common.{arith}
use Rattle.cfi_elf.specs.ElfFiles.{file_view}
use Rattle.cfi_elf.proofs.FileKinds.{relocatable}
use Rattle.cfi_elf.proofs.elf_file.with_addresses.Goals as goal

pub returns-in-1 : goal.returns-in-1
returns-in-1 c = relocatable (file_view c.args.file) (omega arith) (omega arith)
