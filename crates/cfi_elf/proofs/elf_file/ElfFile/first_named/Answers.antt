use Rattle.std.proofs.Common.{◌≡◌, ◌∙◌, Ok, Err, sym, ap, rules, arith}
use Rattle.cfi_elf.specs.Searches.{first_by}
use Rattle.cfi_elf.specs.Sections.{is_named}
use Rattle.cfi_elf.specs.ElfFiles.{class_of_file, file_view}
use Rattle.cfi_elf.specs.Headers.{section_header_bytes}
use Rattle.cfi_elf.specs.SectionTables.{section_header_of, section_headers}
use Rattle.cfi_elf.proofs.EntrySteps.{none_is, none_left, search_step}
use Rattle.cfi_elf.proofs.elf_file.ElfFile.first_named.Goals as goal

pub returns-in_default : goal.returns-in_default
returns-in_default c = sym (ap (first_by (is_named c.args.names.now c.args.name.now)) (none_is (section_headers (file_view c.args.self.now) c.args.table.now) c.loop-index.index c.in_default.ensures)) ∙ c.loop-index.invariant

pub returns-in_err-is_named : goal.returns-in_err-is_named
returns-in_err-is_named c =
    let gives : c.from_residual.result ≡ Err c.in_err-is_named.field-0.0 = search rules in
    rw gives (sym (search_step (is_named c.args.names.now c.args.name.now) (section_headers (file_view c.args.self.now) c.args.table.now) c.loop-index.index c.in-Some.header _ c.in-Some.ensures (sym c.in_err-is_named.ensures)) ∙ c.loop-index.invariant)

pub returns-then-branch : goal.returns-then-branch
returns-then-branch c = sym (search_step (is_named c.args.names.now c.args.name.now) (section_headers (file_view c.args.self.now) c.args.table.now) c.loop-index.index c.in-Some.header _ c.in-Some.ensures (sym c.in_ok-is_named.ensures ∙ ap Ok c.if-branch.true)) ∙ c.loop-index.invariant

pub loop-index-preserved : goal.loop-index-preserved
loop-index-preserved c = sym (search_step (is_named c.args.names.now c.args.name.now) (section_headers (file_view c.args.self.now) c.args.table.now) c.loop-index.index c.in-Some.header _ c.in-Some.ensures (sym c.in_ok-is_named.ensures ∙ ap Ok c.if-branch.false)) ∙ c.loop-index.invariant

pub returns : goal.returns
returns c = sym (ap (first_by (is_named c.args.names.now c.args.name.now)) (none_left (section_header_of (file_view c.args.self.now)) (section_header_bytes (class_of_file (file_view c.args.self.now))) c.args.table.now c.loop-index.index (omega (arith, c.loop-index-test.false)))) ∙ c.loop-index.invariant
