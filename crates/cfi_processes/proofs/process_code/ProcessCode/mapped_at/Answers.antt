use Rattle.std.proofs.Common.{◌∙◌, Bool, Bor, Some, None, cond, length, nat_le, option_map, sym, ap, arith, rules}
use Rattle.std.proofs.lemmas.Bool.{leb-true, leb-false, le-leb, lt-leb, ltb-true, ltb-false}
use Rattle.std.proofs.lemmas.List.Sorted.{IsPartitionedBy-leb, IsPartitionPoint-from_clause}
use Rattle.cfi_mapped.specs.declared.mappings.MappedCode.{MappedCode}
use Rattle.cfi_processes.proofs.CodeLemmas.{ends_rise, next_is, none_ends_behind}
use Rattle.cfi_processes.proofs.process_code.ProcessCode.mapped_at.Goals as goal

pub returns-in_err-mapped : goal.returns-in_err-mapped
returns-in_err-mapped c =
    let list = c.args.self.now.mappings.now in
    let a = c.args.address in
    let k = c.partition_point-index.result in
    let point = IsPartitionPoint-from_clause (λ m. nat_le m.end a) list k c.partition_point-index.ensures.partitioned
    (IsPartitionedBy-leb (λ m. m.end) list a (λ i j d le inside. ends_rise list 0 i j d c.requires le inside)) (λ b r f k. search rules) in
    let all = ltb-false k (length list) (sym c.in_err-mapped.ensures.lookup.0) in
    ap (option_map (λ (mapped : Bor MappedCode). mapped.now)) c.from_residual.ensures
    ∙ sym (none_ends_behind a list (λ j d inside. leb-true _ _ (point.0 j d (omega arith) (omega (arith, all, inside)))))

pub returns-then-mapped-address : goal.returns-then-mapped-address
returns-then-mapped-address c =
    let list = c.args.self.now.mappings.now in
    let a = c.args.address in
    let k = c.partition_point-index.result in
    let x = c.in_ok-mapped.mapped.now in
    let point = IsPartitionPoint-from_clause (λ m. nat_le m.end a) list k c.partition_point-index.ensures.partitioned
    (IsPartitionedBy-leb (λ m. m.end) list a (λ i j d le inside. ends_rise list 0 i j d c.requires le inside)) (λ b r f k. search rules) in
    let lookup = c.in_ok-mapped.ensures.lookup in
    let inside = ltb-true k (length list) (sym lookup.0) in
    let behind = leb-false _ _ (point.1 k x (omega arith) inside) in
    sym (next_is a list 0 k x c.requires inside lookup.1 (λ j d less. leb-true _ _ (point.0 j d (omega arith) less)) (rw (← lookup.1) at behind)
    ∙ ap (λ (b : Bool). cond b (Some x) None) (le-leb x.start a c.if-mapped-address.true))

pub returns-else-mapped-address : goal.returns-else-mapped-address
returns-else-mapped-address c =
    let list = c.args.self.now.mappings.now in
    let a = c.args.address in
    let k = c.partition_point-index.result in
    let x = c.in_ok-mapped.mapped.now in
    let point = IsPartitionPoint-from_clause (λ m. nat_le m.end a) list k c.partition_point-index.ensures.partitioned
    (IsPartitionedBy-leb (λ m. m.end) list a (λ i j d le inside. ends_rise list 0 i j d c.requires le inside)) (λ b r f k. search rules) in
    let lookup = c.in_ok-mapped.ensures.lookup in
    let inside = ltb-true k (length list) (sym lookup.0) in
    let behind = leb-false _ _ (point.1 k x (omega arith) inside) in
    sym (next_is a list 0 k x c.requires inside lookup.1 (λ j d less. leb-true _ _ (point.0 j d (omega arith) less)) (rw (← lookup.1) at behind)
    ∙ ap (λ (b : Bool). cond b (Some x) None) (lt-leb x.start a c.if-mapped-address.false))
