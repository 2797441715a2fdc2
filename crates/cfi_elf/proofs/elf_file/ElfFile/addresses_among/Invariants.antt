use Rattle.std.proofs.Common.{◌≡◌, drop}
use Rattle.std.specs.List.{fold}
use Rattle.cfi_elf.specs.ElfFiles.{file_view}
use Rattle.cfi_elf.specs.SymbolAddresses.{addresses_with_name, with_symbol}
use Rattle.cfi_elf.specs.SymbolTables.{symbol_table_view, symbols}
use Rattle.cfi_elf.proofs.elf_file.ElfFile.addresses_among.Given as goal

-- the addresses so far, and the symbols that are left
abbrev pub invariant-loop-index : goal.invariant-loop-index
invariant-loop-index l =
    let all = symbols (file_view l.self) (symbol_table_view l.table) in
    fold (with_symbol l.table.names.now l.name) l.addresses.items (drop l.index all) ≡ addresses_with_name l.table.names.now l.name all
