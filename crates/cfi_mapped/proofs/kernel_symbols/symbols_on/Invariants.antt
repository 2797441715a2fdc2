use Rattle.std.proofs.Common.{◌≡◌, ◌++◌, drop, map}
use Rattle.std.specs.List.{filter_map}
use Rattle.cfi_mapped.specs.KernelSymbols.{kernel_symbol_of}
use Rattle.cfi_mapped.specs.TextSymbols.{symbol_view}
use Rattle.cfi_mapped.proofs.kernel_symbols.symbols_on.Given as goal

abbrev pub invariant-loop-line : goal.invariant-loop-line
invariant-loop-line l =
    map symbol_view l.symbols.items ++ filter_map kernel_symbol_of (map (λ line. line.now) (drop l.line-index l.lines)) ≡ filter_map kernel_symbol_of (map (λ line. line.now) l.lines)
