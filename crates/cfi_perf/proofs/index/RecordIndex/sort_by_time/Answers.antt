use Rattle.std.proofs.Common.{rules}
use Rattle.std.proofs.lemmas.List.Sorted.{answers_always}
use Rattle.cfi_perf.proofs.SortSteps.{sorted_at}
use Rattle.cfi_perf.proofs.index.RecordIndex.sort_by_time.Goals as goal

pub returns-clause-indexed : goal.returns-clause-indexed
returns-clause-indexed c walk all records are =
    let keys = answers_always _ _ _ (λ f a r next called. search rules) in
    let old = c.args.self.now in
    sorted_at walk all old.kept.items old.places.items c.sort_by_key.new.self.items records c.sort_by_key.ensures.permutation (c.in_ok-sort_by_key.ensures.sorted (λ p. p.time) keys) (c.in_ok-sort_by_key.ensures.stable (λ p. p.time) keys) are

pub returns-clause-by_time : goal.returns-clause-by_time
returns-clause-by_time c =
    let keys = answers_always _ _ _ (λ f a r next called. search rules) in
    c.in_ok-sort_by_key.ensures.sorted (λ p. p.time) keys
