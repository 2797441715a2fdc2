use Rattle.std.proofs.Common.{◌≡◌, drop}
use Rattle.cfi_elf.specs.ElfFiles.{file_view}
use Rattle.cfi_elf.specs.Placement.{write_section_address}
use Rattle.cfi_elf.specs.InOrder.{in_order}
use Rattle.cfi_elf.specs.SectionTables.{section_headers}
use Rattle.cfi_elf.proofs.elf_file.ElfFile.write_section_addresses.Given as goal

-- the steps that are left make of the bytes so far what all make of those at first
abbrev pub invariant-loop-index : goal.invariant-loop-index
invariant-loop-index l =
    let step = write_section_address (file_view l.self) in
    let all = section_headers (file_view l.self) l.table in
    in_order step l.index (drop l.index all) l.bytes ≡ in_order step 0 all l.fn.bytes
