use Rattle.std.proofs.Common.{◌≡◌, drop}
use Rattle.std.specs.Prelude.{find}
use Rattle.cfi_elf.specs.ElfFiles.{file_view}
use Rattle.cfi_elf.specs.Segments.{is_wanted}
use Rattle.cfi_elf.specs.SegmentLists.{program_headers}
use Rattle.cfi_elf.proofs.elf_file.ElfFile.first_wanted.Given as goal

-- the headers that are left give what all give
abbrev pub invariant-loop-index : goal.invariant-loop-index
invariant-loop-index l =
    let all = program_headers (file_view l.self) l.table in
    find (is_wanted l.wanted) (drop l.index all) ≡ find (is_wanted l.wanted) all
