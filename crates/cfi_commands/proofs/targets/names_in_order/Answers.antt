use Rattle.std.proofs.Common.{rules}
use Rattle.std.proofs.lemmas.List.Sorted.{answers_always}
use Rattle.cfi_commands.specs.Targets.{names_listed}
use Rattle.cfi_commands.proofs.TargetLemmas.{in_order}
use Rattle.cfi_commands.proofs.targets.names_in_order.Goals as goal

pub returns : goal.returns
returns c =
    let keys = answers_always _ _ _ (λ f a r next called. search rules) in
    in_order c.in_ok-names.names.items c.sort_by_key.new.self.items (names_listed c.args.list.now) c.in_ok-names.ensures c.in_ok-sort_by_key.ensures.permutation (c.in_ok-sort_by_key.ensures.sorted (λ name. name) keys)
