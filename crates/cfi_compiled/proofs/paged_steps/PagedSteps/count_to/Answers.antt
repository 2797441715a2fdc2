use Rattle.std.proofs.Common.{◌≡◌, ◌+◌, ◌-◌, ◌/◌, suc, length, subst, arith}
use Rattle.cfi_compiled.specs.PagedSteps.{PagedView, begin_of}
use Rattle.cfi_compiled.specs.SearchedSteps.{IsSplit}
use Rattle.cfi_compiled.proofs.PagedSearch.{split_before, split_in, begins_in_order, begins_inside}
use Rattle.cfi_compiled.proofs.paged_steps.PagedSteps.count_to.Goals as goal

pub returns-then-page-self : goal.returns-then-page-self
returns-then-page-self c =
    subst (λ (v : PagedView). IsSplit v.steps c.args.address 1) c.self.view_is
    (split_before c.self.inside.lead c.self.inside.first c.self.inside.ends.items c.self.inside.steps.items c.self.invariant c.args.address (omega (arith, c.if-page-self.true)))

pub count_up_to-requires-clause-order : goal.count_up_to-requires-clause-order
count_up_to-requires-clause-order c =
    let ends = c.self.inside.ends.items in
    let count = length c.self.inside.steps.items in
    let p = c.args.address / 512 - c.self.inside.first in
    let next : p + 1 ≡ suc p = omega arith in
    let many : c.len.result ≡ count = omega (arith, c.len.ensures, c.self.inside.steps.ok.0) in
    let begin : c.begin_of-begin.result ≡ begin_of ends count p = rw (c.as_slice-ends.ensures.value, many) at c.begin_of-begin.ensures in
    let many-2 : c.len-2.result ≡ count = omega (arith, c.len-2.ensures, c.self.inside.steps.ok.0) in
    let end : c.begin_of-end.result ≡ begin_of ends count (suc p) = rw (c.as_slice-ends.ensures.value, many-2, next) at c.begin_of-end.ensures in
    let order = begins_in_order c.self.inside.lead c.self.inside.first ends c.self.inside.steps.items c.self.invariant p in
    omega (arith, begin, end, order)

pub count_up_to-requires-clause-inside : goal.count_up_to-requires-clause-inside
count_up_to-requires-clause-inside c =
    let ends = c.self.inside.ends.items in
    let count = length c.self.inside.steps.items in
    let p = c.args.address / 512 - c.self.inside.first in
    let next : p + 1 ≡ suc p = omega arith in
    let many-2 : c.len-2.result ≡ count = omega (arith, c.len-2.ensures, c.self.inside.steps.ok.0) in
    let end : c.begin_of-end.result ≡ begin_of ends count (suc p) = rw (c.as_slice-ends.ensures.value, many-2, next) at c.begin_of-end.ensures in
    let inside = begins_inside c.self.inside.lead c.self.inside.first ends c.self.inside.steps.items c.self.invariant (suc p) in
    omega (arith, end, inside, c.as_slice.ensures.len, c.self.inside.steps.ok.0)

pub returns : goal.returns
returns c =
    let ends = c.self.inside.ends.items in
    let count = length c.self.inside.steps.items in
    let p = c.args.address / 512 - c.self.inside.first in
    let next : p + 1 ≡ suc p = omega arith in
    let many : c.len.result ≡ count = omega (arith, c.len.ensures, c.self.inside.steps.ok.0) in
    let begin : c.begin_of-begin.result ≡ begin_of ends count p = rw (c.as_slice-ends.ensures.value, many) at c.begin_of-begin.ensures in
    let many-2 : c.len-2.result ≡ count = omega (arith, c.len-2.ensures, c.self.inside.steps.ok.0) in
    let end : c.begin_of-end.result ≡ begin_of ends count (suc p) = rw (c.as_slice-ends.ensures.value, many-2, next) at c.begin_of-end.ensures in
    let split = rw (c.as_slice.ensures.value, begin, end) at c.count_up_to.ensures in
    subst (λ (v : PagedView). IsSplit v.steps c.args.address (c.count_up_to.result + 1)) c.self.view_is
    (split_in c.self.inside.lead c.self.inside.first ends c.self.inside.steps.items c.self.invariant c.args.address p (omega (arith, c.if-page-self.false)) c.count_up_to.result split)
