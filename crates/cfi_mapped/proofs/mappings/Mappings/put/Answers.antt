use Rattle.std.proofs.Common.{◌≡◌, ◌∙◌, ap, Ok, length, nat_le, nat_lt, subst, sym, rules, tests, refl}
use Rattle.std.specs.List.{splice}
use Rattle.std.specs.Vec.{vec_len}
use Rattle.std.specs.declared.alloc.AllocError.{AllocError}
use Rattle.std.proofs.lemmas.Iterator.Adapters.{YieldsList-from_vec, items_from_extend}
use Rattle.std.proofs.lemmas.List.Sorted.{IsPartitionedBy-leb, IsPartitionedBy-ltb, IsPartitionPoint-from_clause}
use Rattle.cfi_mapped.specs.Mappings.{AreMappedInOrder, mapped_over}
use Rattle.cfi_mapped.proofs.MappedBeside.{ends_first, ends_rise, put_between, starts_rise}
use Rattle.cfi_mapped.proofs.MappedOrder.{over_in_order}
use Rattle.cfi_mapped.proofs.mappings.Mappings.put.Goals as goal

pub slice_bounds-over-count : goal.slice_bounds-over-count
slice_bounds-over-count c =
    let list = c.as_slice-list.result.now in
    let new = c.args.new in
    let i = c.partition_point-below.result in
    let j = c.partition_point-begun.result in
    let order : AreMappedInOrder 0 list = subst (AreMappedInOrder 0) (sym c.as_slice-list.ensures.value) c.self.invariant in
    let ended = IsPartitionPoint-from_clause (λ m. nat_le m.end new.start) list i c.partition_point-below.ensures.partitioned
    (IsPartitionedBy-leb (λ m. m.end) list new.start (ends_rise 0 list order)) (λ b r f k. search (rules, tests)) in
    let later = IsPartitionPoint-from_clause (λ m. nat_lt m.start new.end) list j c.partition_point-begun.ensures.partitioned
    (IsPartitionedBy-ltb (λ m. m.start) list new.end (starts_rise 0 list order)) (λ b r f k. search (rules, tests)) in
    ends_first new c.requires.bytes list order i j c.partition_point-below.ensures.bound ended.0 later.1

pub slice_bounds-over-start : goal.slice_bounds-over-start
slice_bounds-over-start c =
    let list = c.as_slice-list.result.now in
    let new = c.args.new in
    let i = c.partition_point-below.result in
    let j = c.partition_point-begun.result in
    let order : AreMappedInOrder 0 list = subst (AreMappedInOrder 0) (sym c.as_slice-list.ensures.value) c.self.invariant in
    let ended = IsPartitionPoint-from_clause (λ m. nat_le m.end new.start) list i c.partition_point-below.ensures.partitioned
    (IsPartitionedBy-leb (λ m. m.end) list new.start (ends_rise 0 list order)) (λ b r f k. search (rules, tests)) in
    let later = IsPartitionPoint-from_clause (λ m. nat_lt m.start new.end) list j c.partition_point-begun.ensures.partitioned
    (IsPartitionedBy-ltb (λ m. m.start) list new.end (starts_rise 0 list order)) (λ b r f k. search (rules, tests)) in
    ends_first new c.requires.bytes list order i j c.partition_point-below.ensures.bound ended.0 later.1

pub splice-requires-clause-start_le_end : goal.splice-requires-clause-start_le_end
splice-requires-clause-start_le_end c =
    let list = c.as_slice-list.result.now in
    let new = c.args.new in
    let i = c.partition_point-below.result in
    let j = c.partition_point-begun.result in
    let order : AreMappedInOrder 0 list = subst (AreMappedInOrder 0) (sym c.as_slice-list.ensures.value) c.self.invariant in
    let ended = IsPartitionPoint-from_clause (λ m. nat_le m.end new.start) list i c.partition_point-below.ensures.partitioned
    (IsPartitionedBy-leb (λ m. m.end) list new.start (ends_rise 0 list order)) (λ b r f k. search (rules, tests)) in
    let later = IsPartitionPoint-from_clause (λ m. nat_lt m.start new.end) list j c.partition_point-begun.ensures.partitioned
    (IsPartitionedBy-ltb (λ m. m.start) list new.end (starts_rise 0 list order)) (λ b r f k. search (rules, tests)) in
    ends_first new c.requires.bytes list order i j c.partition_point-below.ensures.bound ended.0 later.1

pub invariant_of-self-2 : goal.invariant_of-self-2
invariant_of-self-2 c =
    let list = c.as_slice-list.result.now in
    let new = c.args.new in
    let i = c.partition_point-below.result in
    let j = c.partition_point-begun.result in
    let order : AreMappedInOrder 0 list = subst (AreMappedInOrder 0) (sym c.as_slice-list.ensures.value) c.self.invariant in
    let ended = IsPartitionPoint-from_clause (λ m. nat_le m.end new.start) list i c.partition_point-below.ensures.partitioned
    (IsPartitionedBy-leb (λ m. m.end) list new.start (ends_rise 0 list order)) (λ b r f k. search (rules, tests)) in
    let later = IsPartitionPoint-from_clause (λ m. nat_lt m.start new.end) list j c.partition_point-begun.ensures.partitioned
    (IsPartitionedBy-ltb (λ m. m.start) list new.end (starts_rise 0 list order)) (λ b r f k. search (rules, tests)) in
    let it = c.in_ok-splice.ensures.items in
    let there = c.in_ok-there.there in
    let len : vec_len there ≡ length there.items = there.ok.0 in
    let put : c.splice.new.self.items ≡ splice list i j there.items =
    items_from_extend {E = AllocError} {P = λ xs. c.splice.new.self.items ≡ splice list i j xs} (Ok tt)
    (it.0, it.1, refl, it.4 ∙ ap (λ l. splice l i j it.1) (sym c.as_slice-list.ensures.value), it.3) (YieldsList-from_vec there.items it.2.0 (it.2.1 ∙ len)) in
    let all : c.splice.new.self.items ≡ mapped_over new list = put_between new c.requires.bytes list order i j c.partition_point-below.ensures.bound ended.0 later.1 there.items c.splice.new.self.items c.in_ok-there.ensures put in
    subst (AreMappedInOrder 0) (sym all) (over_in_order new list c.requires.bytes order)

pub returns-clause-list : goal.returns-clause-list
returns-clause-list c =
    let list = c.as_slice-list.result.now in
    let new = c.args.new in
    let i = c.partition_point-below.result in
    let j = c.partition_point-begun.result in
    let order : AreMappedInOrder 0 list = subst (AreMappedInOrder 0) (sym c.as_slice-list.ensures.value) c.self.invariant in
    let ended = IsPartitionPoint-from_clause (λ m. nat_le m.end new.start) list i c.partition_point-below.ensures.partitioned
    (IsPartitionedBy-leb (λ m. m.end) list new.start (ends_rise 0 list order)) (λ b r f k. search (rules, tests)) in
    let later = IsPartitionPoint-from_clause (λ m. nat_lt m.start new.end) list j c.partition_point-begun.ensures.partitioned
    (IsPartitionedBy-ltb (λ m. m.start) list new.end (starts_rise 0 list order)) (λ b r f k. search (rules, tests)) in
    let it = c.in_ok-splice.ensures.items in
    let there = c.in_ok-there.there in
    let len : vec_len there ≡ length there.items = there.ok.0 in
    let put : c.splice.new.self.items ≡ splice list i j there.items =
    items_from_extend {E = AllocError} {P = λ xs. c.splice.new.self.items ≡ splice list i j xs} (Ok tt)
    (it.0, it.1, refl, it.4 ∙ ap (λ l. splice l i j it.1) (sym c.as_slice-list.ensures.value), it.3) (YieldsList-from_vec there.items it.2.0 (it.2.1 ∙ len)) in
    let all : c.splice.new.self.items ≡ mapped_over new list = put_between new c.requires.bytes list order i j c.partition_point-below.ensures.bound ended.0 later.1 there.items c.splice.new.self.items c.in_ok-there.ensures put in
    let viewed : list ≡ c.args.self.now = search rules in
    all ∙ ap (mapped_over new) viewed
