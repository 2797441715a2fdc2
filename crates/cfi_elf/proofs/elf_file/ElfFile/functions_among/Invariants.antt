use Rattle.std.proofs.Common.{◌≡◌, ◌++◌, drop, map}
use Rattle.std.specs.List.{filter_map}
use Rattle.cfi_elf.specs.ElfFiles.{file_view}
use Rattle.cfi_elf.specs.Functions.{named_function}
use Rattle.cfi_elf.specs.Functions.{function_view}
use Rattle.cfi_elf.specs.SymbolTables.{symbol_table_view, symbols}
use Rattle.cfi_elf.proofs.elf_file.ElfFile.functions_among.Given as goal

-- the functions so far, and those of the symbols that are left
abbrev pub invariant-loop-index : goal.invariant-loop-index
invariant-loop-index l =
    let all = symbols (file_view l.self) (symbol_table_view l.table) in
    let f = named_function l.table.names.now in
    map function_view l.functions.items ++ filter_map f (drop l.index all) ≡ filter_map f all
