use Rattle.std.proofs.Common.{nat_le, leb-true, leb-false, arith, rules}
use Rattle.std.proofs.lemmas.List.Sorted.{IsPartitionPoint-from_clause}
use Rattle.cfi_step.proofs.SortedCode.{ended_are_first}
use Rattle.cfi_step.proofs.code_ranges.ended_by.Goals as goal

pub returns : goal.returns
returns g c =
    let items = c.args.list.now in
    let a = c.args.address in
    let end = g.A.HasCode.end in
    let point = IsPartitionPoint-from_clause (λ item. nat_le (end item) a) items c.partition_point.result c.partition_point.ensures.partitioned
    (ended_are_first g.A.HasCode.start end items a c.requires) (λ b r f k. search rules) in
    record {
      inside = c.partition_point.ensures.bound;
      ended = λ j d less. leb-true _ _ (point.0 j d (omega arith) less);
      not_ended = λ j d more inside. leb-false _ _ (point.1 j d more inside);
    }
