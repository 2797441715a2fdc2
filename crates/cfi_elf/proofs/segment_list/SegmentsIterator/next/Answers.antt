use Rattle.std.proofs.Common.{arith, rules, ap, length}
use Rattle.cfi_elf.specs.ElfFiles.{class_of_file, file_view, is_big_file}
use Rattle.cfi_elf.specs.Headers.{program_header, program_header_bytes}
use Rattle.cfi_elf.specs.SegmentLists.{program_headers}
use Rattle.cfi_elf.proofs.EntrySteps.{next_left, none_is, none_left}
use Rattle.cfi_elf.proofs.segment_list.SegmentsIterator.next.Goals as goal

pub returns-then-self-clause-steps : goal.returns-then-self-clause-steps
returns-then-self-clause-steps c =
    let walk = c.args.self.now in
    let file = file_view walk.file in
    let none = none_left (program_header (class_of_file file) (is_big_file file)) (program_header_bytes (class_of_file file)) walk.table.now walk.index (omega arith) in (
      none,
      none,
    )

pub returns-in_default-clause-steps : goal.returns-in_default-clause-steps
returns-in_default-clause-steps c =
    let walk = c.args.self.now in
    let none = none_is (program_headers (file_view walk.file) walk.table.now) walk.index c.in_default.ensures in (
      none,
      none,
    )

pub returns-clause-steps : goal.returns-clause-steps
returns-clause-steps c =
    let walk = c.args.self.now in
    next_left (program_headers (file_view walk.file) walk.table.now) walk.index c.in-Some.header c.in-Some.ensures

pub returns-clause-goes : goal.returns-clause-goes
returns-clause-goes c =
    let walk = c.args.self.now in
    let count = ap length (next_left (program_headers (file_view walk.file) walk.table.now) walk.index c.in-Some.header c.in-Some.ensures) in
    search rules
