use Rattle.std.proofs.Common.{◌≡◌, ◌++◌, true, drop}
use Rattle.std.specs.List.{filter_map}
use Rattle.cfi_elf.specs.ElfFiles.{file_view}
use Rattle.cfi_elf.specs.GotEntries.{slot_of}
use Rattle.cfi_elf.specs.PltSections.{got_relocations_view}
use Rattle.cfi_elf.specs.Relocations.{relocations}
use Rattle.cfi_elf.proofs.elf_file.ElfFile.add_slots.Given as goal

-- the places so far, and those of the relocations that are left
abbrev pub invariant-loop-index : goal.invariant-loop-index
invariant-loop-index l =
    let file = file_view l.self in
    let f = slot_of file (got_relocations_view l.got) l.name in
    let all = relocations file true l.entries in
    l.found.items ++ filter_map f (drop l.index all) ≡ l.fn.found.items ++ filter_map f all
