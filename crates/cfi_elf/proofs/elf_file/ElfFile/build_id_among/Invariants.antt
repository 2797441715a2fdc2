use Rattle.std.proofs.Common.{◌≡◌}
use Rattle.cfi_elf.specs.ElfFiles.{file_view}
use Rattle.cfi_elf.specs.BuildIds.{build_id_among}
use Rattle.cfi_elf.specs.SegmentLists.{segments_left}
use Rattle.cfi_elf.proofs.elf_file.ElfFile.build_id_among.Given as goal

-- the headers that are left give what all give
abbrev pub invariant-loop-header : goal.invariant-loop-header
invariant-loop-header l =
    build_id_among (file_view l.self) (segments_left l.header-iterator) ≡ build_id_among (file_view l.self) (segments_left l.fn.headers)
