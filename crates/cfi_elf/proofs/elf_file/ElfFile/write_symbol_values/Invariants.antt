use Rattle.std.proofs.Common.{◌≡◌, drop}
use Rattle.cfi_elf.specs.ElfFiles.{file_view}
use Rattle.cfi_elf.specs.Placement.{write_symbol_value}
use Rattle.cfi_elf.specs.InOrder.{in_order}
use Rattle.cfi_elf.specs.SymbolTables.{symbols_of_bytes}
use Rattle.cfi_elf.proofs.elf_file.ElfFile.write_symbol_values.Given as goal

-- the steps that are left make of the bytes so far what all make of those at first
abbrev pub invariant-loop-index : goal.invariant-loop-index
invariant-loop-index l =
    let step = write_symbol_value (file_view l.self) l.table l.offset in
    let all = symbols_of_bytes (file_view l.self) l.symbols in
    in_order step l.index (drop l.index all) l.bytes ≡ in_order step 0 all l.fn.bytes
