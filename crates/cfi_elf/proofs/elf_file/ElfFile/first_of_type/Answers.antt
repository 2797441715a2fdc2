use Rattle.std.proofs.Common.{◌∙◌, sym, ap, arith, eq-eqb, ne_eqb}
use Rattle.std.specs.Prelude.{find}
use Rattle.cfi_elf.specs.SymbolTables.{is_of_type}
use Rattle.cfi_elf.specs.ElfFiles.{class_of_file, file_view}
use Rattle.cfi_elf.specs.Headers.{section_header_bytes}
use Rattle.cfi_elf.specs.SectionTables.{section_header_of, section_headers}
use Rattle.cfi_elf.proofs.EntrySteps.{find_step, none_is, none_left}
use Rattle.cfi_elf.proofs.elf_file.ElfFile.first_of_type.Goals as goal

pub returns-in_default : goal.returns-in_default
returns-in_default c = sym (ap (find (is_of_type c.args.sh_type)) (none_is (section_headers (file_view c.args.self.now) c.args.table.now) c.loop-index.index c.in_default.ensures)) ∙ c.loop-index.invariant

pub returns-then-header-sh_type : goal.returns-then-header-sh_type
returns-then-header-sh_type c = sym (find_step (is_of_type c.args.sh_type) (section_headers (file_view c.args.self.now) c.args.table.now) c.loop-index.index c.in-Some.header _ c.in-Some.ensures (eq-eqb _ _ c.if-header-sh_type.true)) ∙ c.loop-index.invariant

pub loop-index-preserved : goal.loop-index-preserved
loop-index-preserved c = sym (find_step (is_of_type c.args.sh_type) (section_headers (file_view c.args.self.now) c.args.table.now) c.loop-index.index c.in-Some.header _ c.in-Some.ensures (ne_eqb _ _ c.if-header-sh_type.false)) ∙ c.loop-index.invariant

pub returns : goal.returns
returns c = sym (ap (find (is_of_type c.args.sh_type)) (none_left (section_header_of (file_view c.args.self.now)) (section_header_bytes (class_of_file (file_view c.args.self.now))) c.args.table.now c.loop-index.index (omega (arith, c.loop-index-test.false)))) ∙ c.loop-index.invariant
