use Rattle.std.proofs.Common.{◌≡◌, ◌∙◌, ◌+◌, ℕ, Bool, List, drop, sym, ap, arith, if◌then◌else◌}
use Rattle.std.specs.List.{fold}
use Rattle.cfi_elf.specs.declared.symbol.Symbol.{Symbol}
use Rattle.cfi_elf.specs.ElfFiles.{class_of_file, file_view, is_big_file}
use Rattle.cfi_elf.specs.FunctionEntries.{located}
use Rattle.cfi_elf.specs.Headers.{symbol, symbol_bytes}
use Rattle.cfi_elf.specs.SymbolAddresses.{defines_name, with_address, with_symbol}
use Rattle.cfi_elf.specs.SymbolTables.{symbol_table_view, symbols}
use Rattle.cfi_elf.proofs.EntrySteps.{fold_step, none_is, none_left_of}
use Rattle.cfi_elf.proofs.elf_file.ElfFile.addresses_among.Goals as goal
use Rattle.cfi_elf.proofs.elf_file.ElfFile.addresses_among.Goals.{then-defines_name+in_ok-add_distinct, else-defines_name}

pub returns-in_default-clause-ok : goal.returns-in_default-clause-ok
returns-in_default-clause-ok c =
    let all = symbols (file_view c.args.self.now) (symbol_table_view c.args.table) in
    sym (ap (fold (with_symbol c.args.table.names.now c.args.name.now) c.loop-index.addresses.items) (none_is all c.loop-index.index c.in_default.ensures)) ∙ c.loop-index.invariant

-- what was gathered then, by whether the symbol has the name
gathered : (names name found new : List ℕ) (s : Symbol) (b : Bool) → defines_name names name s ≡ b → new ≡ (if b then with_address found s.st_value else found) → new ≡ with_symbol names name found s
gathered names name found new s b has is = is ∙ ap (λ (b : Bool). if b then with_address found s.st_value else found) (sym has)

pub loop-index-preserved : goal.loop-index-preserved
loop-index-preserved c =
    let names = c.args.table.names.now in
    let name = c.args.name.now in
    let found = c.loop-index.addresses.items in
    let all = symbols (file_view c.args.self.now) (symbol_table_view c.args.table) in
    let rest = drop (c.loop-index.index + 1) all in
    let has = sym c.defines_name.ensures in
    let new : c.if-defines_name.addresses.items ≡ with_symbol names name found c.in-Some.symbol = elim c.if-defines_name.branch [
      | then-defines_name+in_ok-add_distinct w ↦ gathered names name found c.if-defines_name.addresses.items c.in-Some.symbol _ (has ∙ w.if-defines_name.true) (ap (λ v. v.items) w.addresses-is ∙ w.in_ok-add_distinct.ensures.ok)
      | else-defines_name w ↦ gathered names name found c.if-defines_name.addresses.items c.in-Some.symbol _ (has ∙ w.if-defines_name.false) (ap (λ v. v.items) w.addresses-is)
    ] in
    ap (λ (xs : List ℕ). fold (with_symbol names name) xs rest) new
    ∙ (sym (fold_step (with_symbol names name) found all c.loop-index.index c.in-Some.symbol c.in-Some.ensures) ∙ c.loop-index.invariant)

pub returns-clause-ok : goal.returns-clause-ok
returns-clause-ok c =
    let file = file_view c.args.self.now in
    sym (ap (fold (with_symbol c.args.table.names.now c.args.name.now) c.loop-index.addresses.items) (none_left_of (located file (symbol_table_view c.args.table).descriptors) (symbol (class_of_file file) (is_big_file file)) (symbol_bytes (class_of_file file)) c.args.table.bytes.now c.loop-index.index (omega (arith, c.loop-index-test.false)))) ∙ c.loop-index.invariant
