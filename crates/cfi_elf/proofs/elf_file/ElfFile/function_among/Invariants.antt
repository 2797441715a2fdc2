use Rattle.std.proofs.Common.{◌≡◌, drop}
use Rattle.std.specs.Prelude.{find}
use Rattle.cfi_elf.specs.ElfFiles.{file_view}
use Rattle.cfi_elf.specs.Symbols.{is_function_at}
use Rattle.cfi_elf.specs.SymbolTables.{symbol_table_view, symbols}
use Rattle.cfi_elf.proofs.elf_file.ElfFile.function_among.Given as goal

-- the symbols that are left give what all give
abbrev pub invariant-loop-index : goal.invariant-loop-index
invariant-loop-index l =
    let all = symbols (file_view l.self) (symbol_table_view l.table) in
    find (is_function_at l.address) (drop l.index all) ≡ find (is_function_at l.address) all
