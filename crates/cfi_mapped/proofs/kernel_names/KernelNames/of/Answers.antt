use Rattle.std.proofs.Common.{◌∙◌, ap, codes, map}
use Rattle.cfi_mapped.specs.KernelSymbols.{kernel_address_among}
use Rattle.cfi_mapped.specs.TextSymbols.{nearest_among, symbol_view}
use Rattle.cfi_mapped.proofs.kernel_names.KernelNames.of.Goals as goal

pub invariant_of-result : goal.invariant_of-result
invariant_of-result c = record {
  begins = (c.kernel_address_among-start.ensures ∙ ap (λ symbols. kernel_address_among (map symbol_view symbols) c.args.symbol.now) c.as_slice-list.ensures.value) ∙ ap (λ symbols. kernel_address_among symbols c.args.symbol.now) c.in_ok-symbols.ensures;
  ends = (c.kernel_address_among-code_end.ensures ∙ ap (λ symbols. kernel_address_among (map symbol_view symbols) (codes "_etext")) c.as_slice-list.ensures.value) ∙ ap (λ symbols. kernel_address_among symbols (codes "_etext")) c.in_ok-symbols.ensures;
  ends_with_data = (c.kernel_address_among-data_end.ensures ∙ ap (λ symbols. kernel_address_among (map symbol_view symbols) (codes "_edata")) c.as_slice-list.ensures.value) ∙ ap (λ symbols. kernel_address_among symbols (codes "_edata")) c.in_ok-symbols.ensures;
  placed = λ address.
      c.in_ok-of.ensures address ∙ ap (λ symbols. nearest_among symbols address) c.in_ok-symbols.ensures;
}
