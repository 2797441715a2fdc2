use Rattle.std.proofs.Common.{◌++◌, ◌∙◌, ◌+◌, drop, map, sym, ap, append-nil, arith}
use Rattle.std.specs.List.{filter_map}
use Rattle.cfi_elf.specs.Functions.{named_function}
use Rattle.cfi_elf.specs.Functions.{function_view}
use Rattle.cfi_elf.specs.ElfFiles.{class_of_file, file_view, is_big_file}
use Rattle.cfi_elf.specs.FunctionEntries.{located}
use Rattle.cfi_elf.specs.Headers.{symbol, symbol_bytes}
use Rattle.cfi_elf.specs.SymbolTables.{symbol_table_view, symbols}
use Rattle.cfi_elf.proofs.EntrySteps.{next_left, none_is, none_left_of}
use Rattle.cfi_elf.proofs.FunctionLists.{none_gathered, one_gathered}
use Rattle.cfi_elf.proofs.elf_file.ElfFile.functions_among.Goals as goal
use Rattle.cfi_elf.proofs.elf_file.ElfFile.functions_among.Goals.{in-Some-named_function+in_ok-push, in_default-named_function}

pub returns-in_default : goal.returns-in_default
returns-in_default c =
    let functions = map function_view c.loop-index.functions.items in
    sym (append-nil functions)
    ∙ (ap (λ xs. functions ++ filter_map (named_function c.args.table.names.now) xs) (sym (none_is (symbols (file_view c.args.self.now) (symbol_table_view c.args.table)) c.loop-index.index c.in_default.ensures)) ∙ c.loop-index.invariant)

pub loop-index-preserved : goal.loop-index-preserved
loop-index-preserved c =
    let f = named_function c.args.table.names.now in
    let functions = map function_view c.loop-index.functions.items in
    let symbols_all = symbols (file_view c.args.self.now) (symbol_table_view c.args.table) in
    let rest = drop (c.loop-index.index + 1) symbols_all in
    let all = filter_map f symbols_all in
    let so = ap (λ xs. functions ++ filter_map f xs) (sym (next_left symbols_all c.loop-index.index c.in-Some.symbol c.in-Some.ensures)) ∙ c.loop-index.invariant in
    elim c.match-named_function.branch [
      | in-Some-named_function+in_ok-push w ↦
          one_gathered function_view f c.loop-index.functions.items c.in-Some.symbol rest all so w.in-Some-named_function.function c.match-named_function.functions.items
          (ap (λ v. v.items) w.functions-is ∙ w.in_ok-push.ensures.items) w.in-Some-named_function.ensures
      | in_default-named_function w ↦
          none_gathered function_view f c.loop-index.functions.items c.in-Some.symbol rest all so c.match-named_function.functions.items
          (ap (λ v. v.items) w.functions-is) w.in_default-named_function.ensures
    ]

pub returns : goal.returns
returns c =
    let functions = map function_view c.loop-index.functions.items in
    sym (append-nil functions)
    ∙ (ap (λ xs. functions ++ filter_map (named_function c.args.table.names.now) xs) (sym (none_left_of (located (file_view c.args.self.now) (symbol_table_view c.args.table).descriptors) (symbol (class_of_file (file_view c.args.self.now)) (is_big_file (file_view c.args.self.now))) (symbol_bytes (class_of_file (file_view c.args.self.now))) c.args.table.bytes.now c.loop-index.index (omega (arith, c.loop-index-test.false)))) ∙ c.loop-index.invariant)
