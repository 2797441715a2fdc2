use Rattle.std.proofs.Common.{◌≡◌, ◌∙◌, ℕ, Err, sym, rules, arith}
use Rattle.cfi_elf.specs.ElfFiles.{class_of_file, file_view, is_big_file}
use Rattle.cfi_elf.specs.RelocatedFiles.{relocate}
use Rattle.cfi_elf.specs.Relocations.{relocation, relocation_bytes, relocations}
use Rattle.cfi_elf.specs.RelocatedFiles.{tables_view}
use Rattle.cfi_elf.proofs.EntrySteps.{none_left}
use Rattle.cfi_elf.proofs.OrderedSteps.{step_failed, step_taken, steps_done, steps_past}
use Rattle.cfi_elf.proofs.elf_file.ElfFile.relocate_entries.Goals as goal

pub returns-in_default : goal.returns-in_default
returns-in_default c =
    let file = file_view c.args.self.now in
    sym (steps_done (λ (index : ℕ). relocate file (tables_view c.args.tables.now) c.args.section.now) (relocations file c.args.has_addend c.args.entries.now) c.loop-index.index c.loop-index.bytes (sym c.in_default.is ∙ c.relocation_in.ensures)) ∙ c.loop-index.invariant

pub returns-in_err-relocate_entry : goal.returns-in_err-relocate_entry
returns-in_err-relocate_entry c =
    let file = file_view c.args.self.now in
    let gives : c.from_residual.result ≡ Err c.in_err-relocate_entry.field-0.0 = search rules in
    rw gives (sym (step_failed (λ (index : ℕ). relocate file (tables_view c.args.tables.now) c.args.section.now) (relocations file c.args.has_addend c.args.entries.now) c.loop-index.index c.loop-index.bytes c.in-Some.relocation c.in_err-relocate_entry.field-0.0 c.in-Some.ensures c.in_err-relocate_entry.ensures) ∙ c.loop-index.invariant)

pub loop-index-preserved : goal.loop-index-preserved
loop-index-preserved c =
    let file = file_view c.args.self.now in
    sym (step_taken (λ (index : ℕ). relocate file (tables_view c.args.tables.now) c.args.section.now) (relocations file c.args.has_addend c.args.entries.now) c.loop-index.index c.loop-index.bytes c.in-Some.relocation c.relocate_entry.new.bytes c.in-Some.ensures c.in_ok-relocate_entry.ensures) ∙ c.loop-index.invariant

pub returns : goal.returns
returns c =
    let file = file_view c.args.self.now in
    sym (steps_past (λ (index : ℕ). relocate file (tables_view c.args.tables.now) c.args.section.now) (relocations file c.args.has_addend c.args.entries.now) c.loop-index.index c.loop-index.bytes (none_left (relocation (class_of_file file) c.args.has_addend (is_big_file file)) (relocation_bytes (class_of_file file) c.args.has_addend) c.args.entries.now c.loop-index.index (omega (arith, c.loop-index-test.false)))) ∙ c.loop-index.invariant
