-- Symbols that are sorted by their addresses.
use Rattle.std.specs.Prelude.{ℕ, Option, map}
use Rattle.cfi_mapped.specs.declared.text_symbols.SortedSymbols.{SortedSymbols}
use Rattle.cfi_mapped.specs.TextSymbols.{Symbol, nearest_among, symbol_view}

abbrev pub nearest_in : SortedSymbols → ℕ → Option Symbol
nearest_in sorted a = nearest_among (map symbol_view sorted.symbols.items) a
