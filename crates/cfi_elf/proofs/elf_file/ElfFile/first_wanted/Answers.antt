use Rattle.std.proofs.Common.{◌∙◌, sym, ap, arith}
use Rattle.std.specs.Prelude.{find}
use Rattle.cfi_elf.specs.Segments.{is_wanted}
use Rattle.cfi_elf.specs.ElfFiles.{class_of_file, file_view, is_big_file}
use Rattle.cfi_elf.specs.Headers.{program_header, program_header_bytes}
use Rattle.cfi_elf.specs.SegmentLists.{program_headers}
use Rattle.cfi_elf.proofs.EntrySteps.{find_step, none_is, none_left}
use Rattle.cfi_elf.proofs.elf_file.ElfFile.first_wanted.Goals as goal

pub returns-in_default : goal.returns-in_default
returns-in_default c = sym (ap (find (is_wanted c.args.wanted)) (none_is (program_headers (file_view c.args.self.now) c.args.table.now) c.loop-index.index c.in_default.ensures)) ∙ c.loop-index.invariant

pub returns-then-is_wanted : goal.returns-then-is_wanted
returns-then-is_wanted c = sym (find_step (is_wanted c.args.wanted) (program_headers (file_view c.args.self.now) c.args.table.now) c.loop-index.index c.in-Some.header _ c.in-Some.ensures (sym c.is_wanted.ensures ∙ c.if-is_wanted.true)) ∙ c.loop-index.invariant

pub loop-index-preserved : goal.loop-index-preserved
loop-index-preserved c = sym (find_step (is_wanted c.args.wanted) (program_headers (file_view c.args.self.now) c.args.table.now) c.loop-index.index c.in-Some.header _ c.in-Some.ensures (sym c.is_wanted.ensures ∙ c.if-is_wanted.false)) ∙ c.loop-index.invariant

pub returns : goal.returns
returns c = sym (ap (find (is_wanted c.args.wanted)) (none_left (program_header (class_of_file (file_view c.args.self.now)) (is_big_file (file_view c.args.self.now))) (program_header_bytes (class_of_file (file_view c.args.self.now))) c.args.table.now c.loop-index.index (omega (arith, c.loop-index-test.false)))) ∙ c.loop-index.invariant
