use Rattle.std.proofs.Common.{ap, sym, ◌∙◌, Ok, Option}
use Rattle.std.specs.Prelude.{option_map}
use Rattle.cfi_elf.specs.declared.sections.Section.{Section}
use Rattle.cfi_elf.specs.ElfFiles.{file_view}
use Rattle.cfi_elf.specs.Sections.{section_view}
use Rattle.cfi_elf.proofs.Cases.{compressed_there}
use Rattle.cfi_elf.proofs.elf_file.ElfFile.debug_frame.Goals as goal

pub returns-in-Some-2 : goal.returns-in-Some-2
returns-in-Some-2 c =
    compressed_there (file_view c.args.self.now) c.in-Some-2.field-0
    (sym (ap (λ (found : Option Section). Ok (option_map section_view found)) c.in_default.is) ∙ c.in_ok-section.ensures.value)
    (sym (ap Ok c.in-Some-2.is) ∙ c.in_ok-header_named.ensures)
