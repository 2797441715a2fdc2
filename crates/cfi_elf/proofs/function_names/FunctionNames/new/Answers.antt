use Rattle.std.proofs.Common.{◌≡◌, rules}
use Rattle.std.proofs.lemmas.List.Sorted.{IsNonDecreasingBy-from_sort_by_key}
use Rattle.std.proofs.lemmas.Fn.{always_returns_same}
use Rattle.cfi_elf.specs.ElfFiles.{file_view}
use Rattle.cfi_elf.specs.Functions.{named_functions}
use Rattle.cfi_elf.proofs.FunctionLists.{named_as_before, placed_as_before}
use Rattle.cfi_elf.proofs.function_names.FunctionNames.new.Goals as goal

pub invariant_of-result : goal.invariant_of-result
invariant_of-result c = record {
  sorted = IsNonDecreasingBy-from_sort_by_key (λ f. f.address) c.sort_by_key.new.self.items c.in_ok-sort_by_key.ensures.sorted (λ a r f' k. search rules);
}

pub returns-clause-names : goal.returns-clause-names
returns-clause-names c address =
    named_as_before address c.in_ok-functions.functions.items c.sort_by_key.new.self.items (named_functions (file_view c.args.file.now)) c.in_ok-functions.ensures
    (c.in_ok-sort_by_key.ensures.stable (λ f. f.address) (always_returns_same _ (λ a r. r ≡ a.0.now.address) _ (λ a r f' k. search rules)))

pub returns-clause-places : goal.returns-clause-places
returns-clause-places c address =
    placed_as_before address c.in_ok-functions.functions.items c.sort_by_key.new.self.items (named_functions (file_view c.args.file.now)) c.in_ok-functions.ensures
    (c.in_ok-sort_by_key.ensures.stable (λ f. f.address) (always_returns_same _ (λ a r. r ≡ a.0.now.address) _ (λ a r f' k. search rules)))
