use Rattle.std.proofs.Common.{◌≡◌, ◌+◌, take, true, false, refl, sym, subst, rules, arith, take_all}
use Rattle.cfi_step.specs.CodeRanges.{begins_from}
use Rattle.cfi_step.proofs.SortedCode.{AreSortedUpTo, all_sorted, not_sorted, one_more, out_of_order}
use Rattle.cfi_step.proofs.code_ranges.out_of_order.Goals as goal

pub loop-index-init : goal.loop-index-init
loop-index-init g c = λ rest. refl

pub loop-index-preserved : goal.loop-index-preserved
loop-index-preserved g c =
    let begins : begins_from g.A.HasCode.start g.A.HasCode.end c.loop-index.end c.index-list-index.result ≡ true = search rules in
    subst (AreSortedUpTo g.A.HasCode.start g.A.HasCode.end c.args.list.now (c.loop-index.index + 1)) {y = c.end-end.result} (sym c.end-end.ensures)
    (one_more g.A.HasCode.start g.A.HasCode.end c.args.list.now c.loop-index.index c.loop-index.end c.loop-index.invariant c.index-list-index.result (omega arith) c.index-list-index.is begins)

pub returns-then-not-begins_from-clause-out_of_order : goal.returns-then-not-begins_from-clause-out_of_order
returns-then-not-begins_from-clause-out_of_order g c =
    let not_begins : begins_from g.A.HasCode.start g.A.HasCode.end c.loop-index.end c.index-list-index.result ≡ false = search rules in
    out_of_order g.A.HasCode.start g.A.HasCode.end c.args.list.now c.loop-index.index c.loop-index.end c.loop-index.invariant c.index-list-index.result (omega arith) c.index-list-index.is not_begins

pub returns-clause-sorted : goal.returns-clause-sorted
returns-clause-sorted g c =
    let all : take c.loop-index.index c.args.list.now ≡ c.args.list.now = take_all c.loop-index.index c.args.list.now (omega arith) in
    all_sorted g.A.HasCode.start g.A.HasCode.end c.args.list.now c.loop-index.index c.loop-index.end c.loop-index.invariant all

pub returns-then-not-begins_from-clause-unsorted : goal.returns-then-not-begins_from-clause-unsorted
returns-then-not-begins_from-clause-unsorted g c =
    let not_begins : begins_from g.A.HasCode.start g.A.HasCode.end c.loop-index.end c.index-list-index.result ≡ false = search rules in
    not_sorted g.A.HasCode.start g.A.HasCode.end c.args.list.now c.loop-index.index c.loop-index.end c.loop-index.invariant c.index-list-index.result (omega arith) c.index-list-index.is not_begins
