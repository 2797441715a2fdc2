use Rattle.std.proofs.Common.{ap, option_map, ◌-◌, ◌<◌, ◌≤◌, length, nat_le, sym, ◌∙◌, arith, rules}
use Rattle.std.proofs.lemmas.Bool.{leb-true, leb-false, ltb-true}
use Rattle.std.proofs.lemmas.List.Sorted.{IsPartitionedBy-leb, IsPartitionPoint-from_clause}
use Rattle.cfi_elf.specs.FunctionPlaces.{place_view}
use Rattle.cfi_elf.proofs.NearestFunctions.{begins_before, found_begins, none_begins, placed}
use Rattle.cfi_elf.proofs.function_names.FunctionNames.place_at.Goals as goal

pub returns-then-count-eq0 : goal.returns-then-count-eq0
returns-then-count-eq0 c =
    let fs = c.args.self.now.functions.items in
    let a = c.args.address in
    let k = c.partition_point-count.result in
    let split = rw c.deref.ensures.value at c.partition_point-count.ensures.partitioned in
    let point = IsPartitionPoint-from_clause (λ f. nat_le f.address a) fs k split (IsPartitionedBy-leb (λ f. f.address) fs a c.args.self.now.sorted) (λ b r f k. search rules) in
    none_begins fs a k (λ j d less inside. leb-true _ _ (point.0 j d (omega arith) less)) (λ j d up inside. leb-false _ _ (point.1 j d up inside)) c.if-count-eq0.true

pub returns-in_err-best_at : goal.returns-in_err-best_at
returns-in_err-best_at c =
    let fs = c.args.self.now.functions.items in
    let a = c.args.address in
    let k = c.partition_point-count.result in
    let split = rw c.deref.ensures.value at c.partition_point-count.ensures.partitioned in
    let point = IsPartitionPoint-from_clause (λ f. nat_le f.address a) fs k split (IsPartitionedBy-leb (λ f. f.address) fs a c.args.self.now.sorted) (λ b r f k. search rules) in
    let lookup = rw c.deref-2.ensures.value at c.in_ok-nearest.ensures.lookup in
    let x = c.in_ok-nearest.nearest.now in
    let last = ltb-true (k - 1) (length fs) (sym lookup.0) in
    let some : 0 < k = omega arith in
    let inside : k ≤ length fs = omega (arith, last, some) in
    ap (option_map place_view) c.from_residual-in_err-best_at.ensures
    ∙ placed fs a k (λ j d less inside. leb-true _ _ (point.0 j d (omega arith) less)) (λ j d up inside. leb-false _ _ (point.1 j d up inside)) x some inside lookup.1 c.args.self.now.sorted _ c.in_err-best_at.ensures

pub place_in_function-requires : goal.place_in_function-requires
place_in_function-requires c =
    let fs = c.args.self.now.functions.items in
    let a = c.args.address in
    let k = c.partition_point-count.result in
    let split = rw c.deref.ensures.value at c.partition_point-count.ensures.partitioned in
    let point = IsPartitionPoint-from_clause (λ f. nat_le f.address a) fs k split (IsPartitionedBy-leb (λ f. f.address) fs a c.args.self.now.sorted) (λ b r f k. search rules) in
    let lookup = rw c.deref-2.ensures.value at c.in_ok-nearest.ensures.lookup in
    let x = c.in_ok-nearest.nearest.now in
    let last = ltb-true (k - 1) (length fs) (sym lookup.0) in
    let some : 0 < k = omega arith in
    let inside : k ≤ length fs = omega (arith, last, some) in
    let low = begins_before fs a k (λ j d less inside. leb-true _ _ (point.0 j d (omega arith) less)) (λ j d up inside. leb-false _ _ (point.1 j d up inside)) x some inside lookup.1 c.args.self.now.sorted in
    let at = found_begins fs x.address _ c.in_ok-best_at.ensures in
    omega (arith, low, at)

pub returns : goal.returns
returns c =
    let fs = c.args.self.now.functions.items in
    let a = c.args.address in
    let k = c.partition_point-count.result in
    let split = rw c.deref.ensures.value at c.partition_point-count.ensures.partitioned in
    let point = IsPartitionPoint-from_clause (λ f. nat_le f.address a) fs k split (IsPartitionedBy-leb (λ f. f.address) fs a c.args.self.now.sorted) (λ b r f k. search rules) in
    let lookup = rw c.deref-2.ensures.value at c.in_ok-nearest.ensures.lookup in
    let x = c.in_ok-nearest.nearest.now in
    let last = ltb-true (k - 1) (length fs) (sym lookup.0) in
    let some : 0 < k = omega arith in
    let inside : k ≤ length fs = omega (arith, last, some) in
    c.place_in_function.ensures ∙ placed fs a k (λ j d less inside. leb-true _ _ (point.0 j d (omega arith) less)) (λ j d up inside. leb-false _ _ (point.1 j d up inside)) x some inside lookup.1 c.args.self.now.sorted _ c.in_ok-best_at.ensures
