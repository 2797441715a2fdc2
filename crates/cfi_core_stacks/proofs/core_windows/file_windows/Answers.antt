use Rattle.std.proofs.Common.{refl, rules}
use Rattle.std.proofs.lemmas.List.Sorted.{IsNonDecreasingBy-from_sort, answers_always}
use Rattle.cfi_core_stacks.proofs.core_windows.file_windows.Goals as goal

pub returns-clause-windows : goal.returns-clause-windows
returns-clause-windows c = λ all hold.
    let keys = answers_always _ _ _ (λ f a r next called. search rules) in
    record {
      read = c.in_ok-windows.windows.items;
      ordered = c.sort_by_key.new.self.items;
      are = c.in_ok-windows.ensures all hold;
      by_start = c.in_ok-sort_by_key.ensures.sorted (λ w. w.start) keys;
      stable = c.in_ok-sort_by_key.ensures.stable (λ w. w.start) keys;
      view = refl;
    }

pub returns-clause-in_order : goal.returns-clause-in_order
returns-clause-in_order c =
    let keys = answers_always _ _ _ (λ f a r next called. search rules) in
    IsNonDecreasingBy-from_sort (λ w. w.start) c.sort_by_key.new.self.items (c.in_ok-sort_by_key.ensures.sorted (λ w. w.start) keys)
