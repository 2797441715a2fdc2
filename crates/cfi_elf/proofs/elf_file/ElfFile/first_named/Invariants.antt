use Rattle.std.proofs.Common.{◌≡◌, drop}
use Rattle.cfi_elf.specs.ElfFiles.{file_view}
use Rattle.cfi_elf.specs.Searches.{first_by}
use Rattle.cfi_elf.specs.Sections.{is_named}
use Rattle.cfi_elf.specs.SectionTables.{section_headers}
use Rattle.cfi_elf.proofs.elf_file.ElfFile.first_named.Given as goal

-- the headers that are left give what all give
abbrev pub invariant-loop-index : goal.invariant-loop-index
invariant-loop-index l =
    let all = section_headers (file_view l.self) l.table in
    first_by (is_named l.names l.name) (drop l.index all) ≡ first_by (is_named l.names l.name) all
