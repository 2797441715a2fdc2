use Rattle.std.proofs.Common.{◌≡◌, map, refl, rules}
use Rattle.std.proofs.lemmas.List.Sorted.{IsNonDecreasingBy-from_sort_by_key}
use Rattle.std.proofs.lemmas.Fn.{always_returns_same}
use Rattle.cfi_mapped.specs.TextSymbols.{symbol_view}
use Rattle.cfi_mapped.proofs.SymbolLemmas.{placed_as_before}
use Rattle.cfi_mapped.proofs.text_symbols.SortedSymbols.of.Goals as goal

pub invariant_of-result : goal.invariant_of-result
invariant_of-result c = record {
  sorted = IsNonDecreasingBy-from_sort_by_key (λ s. s.address) c.sort_by_key.new.self.items c.in_ok-sort_by_key.ensures.sorted (λ a r f' k. search rules);
}

pub returns : goal.returns
returns c address =
    placed_as_before address c.args.symbols.items c.sort_by_key.new.self.items (map symbol_view c.args.symbols.items) refl
    (c.in_ok-sort_by_key.ensures.stable (λ s. s.address) (always_returns_same _ (λ a r. r ≡ a.0.now.address) _ (λ a r f' k. search rules)))
