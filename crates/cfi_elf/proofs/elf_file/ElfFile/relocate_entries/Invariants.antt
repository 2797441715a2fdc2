use Rattle.std.proofs.Common.{◌≡◌, ℕ, drop}
use Rattle.cfi_elf.specs.ElfFiles.{file_view}
use Rattle.cfi_elf.specs.RelocatedFiles.{relocate}
use Rattle.cfi_elf.specs.Relocations.{relocations}
use Rattle.cfi_elf.specs.InOrder.{in_order}
use Rattle.cfi_elf.specs.RelocatedFiles.{tables_view}
use Rattle.cfi_elf.proofs.elf_file.ElfFile.relocate_entries.Given as goal

-- the steps that are left make of the bytes so far what all make of those at first
abbrev pub invariant-loop-index : goal.invariant-loop-index
invariant-loop-index l =
    let step = (λ (index : ℕ). relocate (file_view l.self) (tables_view l.tables) l.section) in
    let all = relocations (file_view l.self) l.has_addend l.entries in
    in_order step l.index (drop l.index all) l.bytes ≡ in_order step 0 all l.fn.bytes
