use Rattle.std.proofs.Common.{◌≡◌, drop}
use Rattle.std.specs.Prelude.{find}
use Rattle.cfi_elf.specs.ElfFiles.{file_view}
use Rattle.cfi_elf.specs.SectionTables.{section_headers}
use Rattle.cfi_elf.specs.SymbolTables.{is_of_type}
use Rattle.cfi_elf.proofs.elf_file.ElfFile.first_of_type.Given as goal

-- the headers that are left give what all give
abbrev pub invariant-loop-index : goal.invariant-loop-index
invariant-loop-index l =
    let all = section_headers (file_view l.self) l.table in
    find (is_of_type l.sh_type) (drop l.index all) ≡ find (is_of_type l.sh_type) all
