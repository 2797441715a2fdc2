use Rattle.std.proofs.Common.{refl, sym, ◌∙◌}
use Rattle.cfi_elf.specs.ElfFiles.{file_view}
use Rattle.cfi_elf.specs.SectionContents.{contents}
use Rattle.cfi_elf.proofs.Contents.{compressed, uncompressed}
use Rattle.cfi_elf.proofs.elf_file.ElfFile.contents.Goals as goal

pub returns-then-header-eq-SHT_NOBITS : goal.returns-then-header-eq-SHT_NOBITS
unfolding contents
returns-then-header-eq-SHT_NOBITS c = rw c.if-header-eq-SHT_NOBITS.true refl

pub returns-then-header-ne0 : goal.returns-then-header-ne0
returns-then-header-ne0 c = sym (compressed (file_view c.args.self.now) c.args.header.now c.if-header-eq-SHT_NOBITS.false c.if-header-ne0.true)

pub returns : goal.returns
returns c = c.bytes_at.ensures ∙ sym (uncompressed (file_view c.args.self.now) c.args.header.now c.if-header-eq-SHT_NOBITS.false c.if-header-ne0.false)
