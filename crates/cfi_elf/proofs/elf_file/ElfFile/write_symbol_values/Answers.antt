use Rattle.std.proofs.Common.{◌≡◌, ◌∙◌, Err, sym, rules, arith}
use Rattle.cfi_elf.specs.ElfFiles.{class_of_file, file_view, is_big_file}
use Rattle.cfi_elf.specs.Headers.{symbol, symbol_bytes}
use Rattle.cfi_elf.specs.Placement.{write_symbol_value}
use Rattle.cfi_elf.specs.SymbolTables.{symbols_of_bytes}
use Rattle.cfi_elf.proofs.EntrySteps.{none_left}
use Rattle.cfi_elf.proofs.OrderedSteps.{step_failed, step_taken, steps_done, steps_past}
use Rattle.cfi_elf.proofs.elf_file.ElfFile.write_symbol_values.Goals as goal

pub returns-in_default : goal.returns-in_default
returns-in_default c =
    let file = file_view c.args.self.now in
    sym (steps_done (write_symbol_value file c.args.table.now c.args.offset) (symbols_of_bytes file c.args.symbols.now) c.loop-index.index c.loop-index.bytes (sym c.in_default.is ∙ c.symbol_in.ensures)) ∙ c.loop-index.invariant

pub returns-in_err-write_symbol_value : goal.returns-in_err-write_symbol_value
returns-in_err-write_symbol_value c =
    let file = file_view c.args.self.now in
    let gives : c.from_residual.result ≡ Err c.in_err-write_symbol_value.field-0.0 = search rules in
    rw gives (sym (step_failed (write_symbol_value file c.args.table.now c.args.offset) (symbols_of_bytes file c.args.symbols.now) c.loop-index.index c.loop-index.bytes c.in-Some.symbol c.in_err-write_symbol_value.field-0.0 c.in-Some.ensures c.in_err-write_symbol_value.ensures) ∙ c.loop-index.invariant)

pub loop-index-preserved : goal.loop-index-preserved
loop-index-preserved c =
    let file = file_view c.args.self.now in
    sym (step_taken (write_symbol_value file c.args.table.now c.args.offset) (symbols_of_bytes file c.args.symbols.now) c.loop-index.index c.loop-index.bytes c.in-Some.symbol c.write_symbol_value.new.bytes c.in-Some.ensures c.in_ok-write_symbol_value.ensures) ∙ c.loop-index.invariant

pub returns : goal.returns
returns c =
    let file = file_view c.args.self.now in
    sym (steps_past (write_symbol_value file c.args.table.now c.args.offset) (symbols_of_bytes file c.args.symbols.now) c.loop-index.index c.loop-index.bytes (none_left (symbol (class_of_file file) (is_big_file file)) (symbol_bytes (class_of_file file)) c.args.symbols.now c.loop-index.index (omega (arith, c.loop-index-test.false)))) ∙ c.loop-index.invariant
