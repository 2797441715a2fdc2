use Rattle.std.proofs.Common.{◌≡◌, ◌++◌, ◌-◌, ◌/◌, length}
use Rattle.std.specs.List.{filter_map, range_with_len}
use Rattle.cfi_elf.specs.ElfFiles.{file_view}
use Rattle.cfi_elf.specs.PltAddresses.{entry_in}
use Rattle.cfi_elf.specs.Sections.{section_view}
use Rattle.cfi_elf.proofs.elf_file.ElfFile.add_entries.Given as goal

-- the entries so far, and those at the places that are left
abbrev pub invariant-loop-index : goal.invariant-loop-index
invariant-loop-index l =
    let f = entry_in (file_view l.self) l.slots (section_view l.section) in
    let n = length l.section.bytes.now / 8 in
    l.found.items ++ filter_map f (range_with_len l.index (n - l.index)) ≡ l.fn.found.items ++ filter_map f (range_with_len 0 n)
