use Rattle.std.proofs.Common.{◌<◌, ◌≤◌, List, length, nat_le, nat_lt, map, ap, ◌∙◌, arith, rules, ⊎_elim}
use Rattle.std.proofs.lemmas.Bool.{leb-true, leb-false, ltb-true, ltb-false}
use Rattle.std.proofs.lemmas.List.Sorted.{IsPartitionedBy-leb, IsPartitionedBy-ltb, IsPartitionPoint-from_clause}
use Rattle.cfi_elf.specs.declared.functions.Function.{Function}
use Rattle.cfi_elf.specs.BestNames.{best}
use Rattle.cfi_elf.specs.Functions.{function_view}
use Rattle.cfi_elf.proofs.FunctionLists.{best_between, rises}
use Rattle.cfi_elf.proofs.function_names.FunctionNames.best_at.Goals as goal

pub returns-in-Some : goal.returns-in-Some
returns-in-Some c =
    let fs = c.args.self.now.functions.items in
    let a = c.args.address in
    let start = c.partition_point-start.result in
    let end = c.partition_point-end.result in
    let start_split = rw c.deref.ensures.value at c.partition_point-start.ensures.partitioned in
    let end_split = rw c.deref-2.ensures.value at c.partition_point-end.ensures.partitioned in
    let begins = IsPartitionPoint-from_clause (λ f. nat_lt f.address a) fs start start_split (IsPartitionedBy-ltb (λ f. f.address) fs a c.args.self.now.sorted) (λ b r f k. search rules) in
    let ends = IsPartitionPoint-from_clause (λ f. nat_le f.address a) fs end end_split (IsPartitionedBy-leb (λ f. f.address) fs a c.args.self.now.sorted) (λ b r f k. search rules) in
    let first : start ≤ length fs = rw c.deref.ensures.value at c.partition_point-start.ensures.bound in
    let last : end ≤ length fs = rw c.deref-2.ensures.value at c.partition_point-end.ensures.bound in
    let lookup = rw c.deref-3.ensures.value at c.in-Some.ensures.lookup in
    c.best_of.ensures ∙ (ap (λ (functions : List Function). best (map function_view functions)) lookup.0.2 ∙ best_between fs a start end (λ j d less inside. ltb-true _ _ (begins.0 j d (omega arith) less)) (λ j d up inside. ltb-false _ _ (begins.1 j d up inside))
    (λ j d less inside. leb-true _ _ (ends.0 j d (omega arith) less)) (λ j d up inside. leb-false _ _ (ends.1 j d up inside)) first last)

pub returns-in-None : goal.returns-in-None
returns-in-None c =
    let fs = c.args.self.now.functions.items in
    let a = c.args.address in
    let start = c.partition_point-start.result in
    let end = c.partition_point-end.result in
    let start_split = rw c.deref.ensures.value at c.partition_point-start.ensures.partitioned in
    let end_split = rw c.deref-2.ensures.value at c.partition_point-end.ensures.partitioned in
    let begins = IsPartitionPoint-from_clause (λ f. nat_lt f.address a) fs start start_split (IsPartitionedBy-ltb (λ f. f.address) fs a c.args.self.now.sorted) (λ b r f k. search rules) in
    let ends = IsPartitionPoint-from_clause (λ f. nat_le f.address a) fs end end_split (IsPartitionedBy-leb (λ f. f.address) fs a c.args.self.now.sorted) (λ b r f k. search rules) in
    let first : start ≤ length fs = rw c.deref.ensures.value at c.partition_point-start.ensures.bound in
    let last : end ≤ length fs = rw c.deref-2.ensures.value at c.partition_point-end.ensures.bound in
    let order : start ≤ end = rises fs a start end (λ j d less inside. ltb-true _ _ (begins.0 j d (omega arith) less)) (λ j d up inside. ltb-false _ _ (begins.1 j d up inside))
    (λ j d less inside. leb-true _ _ (ends.0 j d (omega arith) less)) (λ j d up inside. leb-false _ _ (ends.1 j d up inside)) first last in
    let lookup = rw c.deref-3.ensures.value at c.in-None.ensures.lookup in
    absurd (⊎_elim (λ (less : end < start). omega (arith, less, order)) (λ (less : length fs < end). omega (arith, less, last)) lookup.0)
