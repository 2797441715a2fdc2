use Rattle.std.proofs.Common.{◌-◌, ◌<◌, ◌≤◌, length, nat_le, sym, arith, rules}
use Rattle.std.proofs.lemmas.Bool.{leb-true, leb-false, ltb-true}
use Rattle.std.proofs.lemmas.List.Sorted.{IsPartitionedBy-leb, IsPartitionPoint-from_clause}
use Rattle.cfi_mapped.proofs.SymbolLemmas.{nearest_here, none_begins}
use Rattle.cfi_mapped.proofs.text_symbols.SortedSymbols.nearest.Goals as goal

pub returns-then-count-eq0 : goal.returns-then-count-eq0
returns-then-count-eq0 c =
    let symbols = c.args.self.now.symbols.items in
    let a = c.args.address in
    let k = c.partition_point-count.result in
    let split = rw c.deref.ensures.value at c.partition_point-count.ensures.partitioned in
    let point = IsPartitionPoint-from_clause (λ s. nat_le s.address a) symbols k split (IsPartitionedBy-leb (λ s. s.address) symbols a c.args.self.now.sorted) (λ b r f k. search rules) in
    none_begins symbols a k (λ j d less inside. leb-true _ _ (point.0 j d (omega arith) less)) (λ j d up inside. leb-false _ _ (point.1 j d up inside)) c.if-count-eq0.true

pub returns-in-Some : goal.returns-in-Some
returns-in-Some c =
    let symbols = c.args.self.now.symbols.items in
    let a = c.args.address in
    let k = c.partition_point-count.result in
    let split = rw c.deref.ensures.value at c.partition_point-count.ensures.partitioned in
    let point = IsPartitionPoint-from_clause (λ s. nat_le s.address a) symbols k split (IsPartitionedBy-leb (λ s. s.address) symbols a c.args.self.now.sorted) (λ b r f k. search rules) in
    let lookup = rw c.deref-2.ensures.value at c.in-Some.ensures.lookup in
    let x = c.in-Some.symbol.now in
    let last = ltb-true (k - 1) (length symbols) (sym lookup.0) in
    let some : 0 < k = omega (arith, c.if-count-eq0.false) in
    let inside : k ≤ length symbols = omega (arith, last, some) in
    nearest_here symbols a k (λ j d less inside. leb-true _ _ (point.0 j d (omega arith) less)) (λ j d up inside. leb-false _ _ (point.1 j d up inside)) x some inside lookup.1 c.args.self.now.sorted
