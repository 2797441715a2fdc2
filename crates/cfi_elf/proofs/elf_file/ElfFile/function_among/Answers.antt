use Rattle.std.proofs.Common.{◌∙◌, sym, ap, arith}
use Rattle.std.specs.Prelude.{find}
use Rattle.cfi_elf.specs.Symbols.{is_function_at}
use Rattle.cfi_elf.specs.ElfFiles.{class_of_file, file_view, is_big_file}
use Rattle.cfi_elf.specs.FunctionEntries.{located}
use Rattle.cfi_elf.specs.Headers.{symbol, symbol_bytes}
use Rattle.cfi_elf.specs.SymbolTables.{symbol_table_view, symbols}
use Rattle.cfi_elf.proofs.EntrySteps.{find_step, none_is, none_left_of}
use Rattle.cfi_elf.proofs.elf_file.ElfFile.function_among.Goals as goal

pub returns-in_default : goal.returns-in_default
returns-in_default c = sym (ap (find (is_function_at c.args.address)) (none_is (symbols (file_view c.args.self.now) (symbol_table_view c.args.table)) c.loop-index.index c.in_default.ensures)) ∙ c.loop-index.invariant

pub returns-then-is_function_at : goal.returns-then-is_function_at
returns-then-is_function_at c = sym (find_step (is_function_at c.args.address) (symbols (file_view c.args.self.now) (symbol_table_view c.args.table)) c.loop-index.index c.in-Some.symbol _ c.in-Some.ensures (sym c.is_function_at.ensures ∙ c.if-is_function_at.true)) ∙ c.loop-index.invariant

pub loop-index-preserved : goal.loop-index-preserved
loop-index-preserved c = sym (find_step (is_function_at c.args.address) (symbols (file_view c.args.self.now) (symbol_table_view c.args.table)) c.loop-index.index c.in-Some.symbol _ c.in-Some.ensures (sym c.is_function_at.ensures ∙ c.if-is_function_at.false)) ∙ c.loop-index.invariant

pub returns : goal.returns
returns c = sym (ap (find (is_function_at c.args.address)) (none_left_of (located (file_view c.args.self.now) (symbol_table_view c.args.table).descriptors) (symbol (class_of_file (file_view c.args.self.now)) (is_big_file (file_view c.args.self.now))) (symbol_bytes (class_of_file (file_view c.args.self.now))) c.args.table.bytes.now c.loop-index.index (omega (arith, c.loop-index-test.false)))) ∙ c.loop-index.invariant
