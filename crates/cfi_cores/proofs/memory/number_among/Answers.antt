use Rattle.std.proofs.Common.{◌<◌, nat_le, sym, ap, ◌∙◌, arith, rules}
use Rattle.std.specs.Option.{option_and_then}
use Rattle.std.proofs.lemmas.List.Sorted.{IsPartitionedBy-leb, IsPartitionPoint-from_clause}
use Rattle.cfi_cores.specs.CoreSegments.{segment_number}
use Rattle.cfi_cores.proofs.LastSegments.{last_begins, none_begins}
use Rattle.cfi_cores.proofs.memory.number_among.Goals as goal

pub returns-then-count-eq0 : goal.returns-then-count-eq0
returns-then-count-eq0 c =
    let segments = c.args.segments.now in
    let a = c.args.address in
    let k = c.partition_point-count.result in
    let point = IsPartitionPoint-from_clause (λ s. nat_le s.start a) segments k c.partition_point-count.ensures.partitioned (IsPartitionedBy-leb (λ s. s.start) segments a c.requires.order) (λ b r f k. search rules) in
    sym (ap (option_and_then (segment_number a c.args.size))
    (none_begins segments a k (λ j d less inside. point.0 j d (omega arith) less) (λ j d up inside. point.1 j d up inside) c.if-count-eq0.true))

pub returns : goal.returns
returns c =
    let segments = c.args.segments.now in
    let a = c.args.address in
    let k = c.partition_point-count.result in
    let point = IsPartitionPoint-from_clause (λ s. nat_le s.start a) segments k c.partition_point-count.ensures.partitioned (IsPartitionedBy-leb (λ s. s.start) segments a c.requires.order) (λ b r f k. search rules) in
    let some : 0 < k = omega arith in
    c.segment_number.ensures
    ∙ sym (ap (option_and_then (segment_number a c.args.size))
    (last_begins segments a k (λ j d less inside. point.0 j d (omega arith) less) (λ j d up inside. point.1 j d up inside) _ some c.partition_point-count.ensures.bound))
