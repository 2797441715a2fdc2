use Rattle.std.proofs.Common.{◌≡◌, drop, map}
use Rattle.cfi_mapped.specs.KernelSymbols.{kernel_address_among}
use Rattle.cfi_mapped.specs.TextSymbols.{symbol_view}
use Rattle.cfi_mapped.proofs.kernel_symbols.kernel_address_among.Given as goal

abbrev pub invariant-loop-symbol : goal.invariant-loop-symbol
invariant-loop-symbol l = kernel_address_among (map symbol_view (drop l.symbol-index l.symbols)) l.name ≡ kernel_address_among (map symbol_view l.symbols) l.name
