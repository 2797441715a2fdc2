use Rattle.std.proofs.Common.{ap, refl, sym, ◌∙◌, Ok, Some}
use Rattle.cfi_elf.specs.ElfFiles.{file_view}
use Rattle.cfi_elf.specs.Sections.{section_named, section_by_header}
use Rattle.cfi_elf.specs.Results.{if_found}
use Rattle.cfi_elf.proofs.FoundSections.{first_found, none_found}
use Rattle.cfi_elf.proofs.Chains.{ok_then}
use Rattle.cfi_elf.proofs.elf_file.ElfFile.section.Goals as goal

pub returns-in_default-clause-first : goal.returns-in_default-clause-first
returns-in_default-clause-first c = λ table names tables strings.
    none_found (file_view c.args.self.now) table names c.args.name.now tables strings (sym (ap Ok c.in_default.is) ∙ c.in_ok-header.ensures)

pub returns-clause-first : goal.returns-clause-first
returns-clause-first c = λ table names tables strings.
    first_found (file_view c.args.self.now) table names c.args.name.now tables strings c.in-Some.header
    (record { address = c.in-Some.header.sh_addr; bytes = c.in_ok-bytes.bytes.now })
    (sym (ap Ok c.in-Some.is) ∙ c.in_ok-header.ensures) refl c.in_ok-bytes.ensures

pub returns-clause-value : goal.returns-clause-value
unfolding section_named
returns-clause-value c =
    ok_then _ _ (λ section. Ok (Some section)) (ok_then _ _ (λ bytes. Ok (record { address = c.in-Some.header.sh_addr; bytes = bytes })) c.in_ok-bytes.ensures)
    ∙ ok_then _ _ (if_found (section_by_header (file_view c.args.self.now))) (sym (ap Ok c.in-Some.is) ∙ c.in_ok-header.ensures)
