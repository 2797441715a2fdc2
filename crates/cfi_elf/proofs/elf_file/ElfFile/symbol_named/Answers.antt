use Rattle.std.proofs.Common.{◌≡◌, ◌∙◌, Ok, Err, sym, ap, rules, arith}
use Rattle.cfi_elf.specs.Searches.{first_by}
use Rattle.cfi_elf.specs.SymbolAddresses.{is_symbol_named}
use Rattle.cfi_elf.specs.ElfFiles.{class_of_file, file_view, is_big_file}
use Rattle.cfi_elf.specs.FunctionEntries.{located}
use Rattle.cfi_elf.specs.Headers.{symbol, symbol_bytes}
use Rattle.cfi_elf.specs.SymbolTables.{symbol_table_view, symbols}
use Rattle.cfi_elf.proofs.EntrySteps.{none_is, none_left_of, search_step}
use Rattle.cfi_elf.proofs.elf_file.ElfFile.symbol_named.Goals as goal

pub returns-in_default : goal.returns-in_default
returns-in_default c = sym (ap (first_by (is_symbol_named c.args.table.names.now c.args.name.now)) (none_is (symbols (file_view c.args.self.now) (symbol_table_view c.args.table)) c.loop-index.index c.in_default.ensures)) ∙ c.loop-index.invariant

pub returns-in_err-is_symbol_named : goal.returns-in_err-is_symbol_named
returns-in_err-is_symbol_named c =
    let gives : c.from_residual.result ≡ Err c.in_err-is_symbol_named.field-0.0 = search rules in
    rw gives (sym (search_step (is_symbol_named c.args.table.names.now c.args.name.now) (symbols (file_view c.args.self.now) (symbol_table_view c.args.table)) c.loop-index.index c.in-Some.symbol _ c.in-Some.ensures (sym c.in_err-is_symbol_named.ensures)) ∙ c.loop-index.invariant)

pub returns-then-branch : goal.returns-then-branch
returns-then-branch c = sym (search_step (is_symbol_named c.args.table.names.now c.args.name.now) (symbols (file_view c.args.self.now) (symbol_table_view c.args.table)) c.loop-index.index c.in-Some.symbol _ c.in-Some.ensures (sym c.in_ok-is_symbol_named.ensures ∙ ap Ok c.if-branch.true)) ∙ c.loop-index.invariant

pub loop-index-preserved : goal.loop-index-preserved
loop-index-preserved c = sym (search_step (is_symbol_named c.args.table.names.now c.args.name.now) (symbols (file_view c.args.self.now) (symbol_table_view c.args.table)) c.loop-index.index c.in-Some.symbol _ c.in-Some.ensures (sym c.in_ok-is_symbol_named.ensures ∙ ap Ok c.if-branch.false)) ∙ c.loop-index.invariant

pub returns : goal.returns
returns c = sym (ap (first_by (is_symbol_named c.args.table.names.now c.args.name.now)) (none_left_of (located (file_view c.args.self.now) (symbol_table_view c.args.table).descriptors) (symbol (class_of_file (file_view c.args.self.now)) (is_big_file (file_view c.args.self.now))) (symbol_bytes (class_of_file (file_view c.args.self.now))) c.args.table.bytes.now c.loop-index.index (omega (arith, c.loop-index-test.false)))) ∙ c.loop-index.invariant
