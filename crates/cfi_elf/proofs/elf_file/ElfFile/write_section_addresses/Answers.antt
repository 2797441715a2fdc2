use Rattle.std.proofs.Common.{◌≡◌, ◌∙◌, Err, sym, rules, arith}
use Rattle.cfi_elf.specs.ElfFiles.{class_of_file, file_view}
use Rattle.cfi_elf.specs.Headers.{section_header_bytes}
use Rattle.cfi_elf.specs.Placement.{write_section_address}
use Rattle.cfi_elf.specs.SectionTables.{section_header_of, section_headers}
use Rattle.cfi_elf.proofs.EntrySteps.{none_left}
use Rattle.cfi_elf.proofs.OrderedSteps.{step_failed, step_taken, steps_done, steps_past}
use Rattle.cfi_elf.proofs.elf_file.ElfFile.write_section_addresses.Goals as goal

pub returns-in_default : goal.returns-in_default
returns-in_default c =
    let file = file_view c.args.self.now in
    sym (steps_done (write_section_address file) (section_headers file c.args.table.now) c.loop-index.index c.loop-index.bytes (sym c.in_default.is ∙ c.section_header_in.ensures)) ∙ c.loop-index.invariant

pub returns-in_err-write_section_address : goal.returns-in_err-write_section_address
returns-in_err-write_section_address c =
    let file = file_view c.args.self.now in
    let gives : c.from_residual.result ≡ Err c.in_err-write_section_address.field-0.0 = search rules in
    rw gives (sym (step_failed (write_section_address file) (section_headers file c.args.table.now) c.loop-index.index c.loop-index.bytes c.in-Some.header c.in_err-write_section_address.field-0.0 c.in-Some.ensures c.in_err-write_section_address.ensures) ∙ c.loop-index.invariant)

pub loop-index-preserved : goal.loop-index-preserved
loop-index-preserved c =
    let file = file_view c.args.self.now in
    sym (step_taken (write_section_address file) (section_headers file c.args.table.now) c.loop-index.index c.loop-index.bytes c.in-Some.header c.write_section_address.new.bytes c.in-Some.ensures c.in_ok-write_section_address.ensures) ∙ c.loop-index.invariant

pub returns : goal.returns
returns c =
    let file = file_view c.args.self.now in
    sym (steps_past (write_section_address file) (section_headers file c.args.table.now) c.loop-index.index c.loop-index.bytes (none_left (section_header_of file) (section_header_bytes (class_of_file file)) c.args.table.now c.loop-index.index (omega (arith, c.loop-index-test.false)))) ∙ c.loop-index.invariant
