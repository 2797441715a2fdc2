use Rattle.std.proofs.Common.{◌≡◌, drop}
use Rattle.cfi_elf.specs.ElfFiles.{file_view}
use Rattle.cfi_elf.specs.Searches.{first_by}
use Rattle.cfi_elf.specs.SymbolAddresses.{is_symbol_named}
use Rattle.cfi_elf.specs.SymbolTables.{symbol_table_view, symbols}
use Rattle.cfi_elf.proofs.elf_file.ElfFile.symbol_named.Given as goal

-- the symbols that are left give what all give
abbrev pub invariant-loop-index : goal.invariant-loop-index
invariant-loop-index l =
    let all = symbols (file_view l.self) (symbol_table_view l.table) in
    first_by (is_symbol_named l.table.names.now l.name) (drop l.index all) ≡ first_by (is_symbol_named l.table.names.now l.name) all
