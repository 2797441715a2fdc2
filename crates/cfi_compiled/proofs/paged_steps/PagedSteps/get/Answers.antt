use Rattle.std.proofs.Common.{◌≡◌, ◌+◌, ◌-◌, ◌*◌, ◌<◌, ◌≤◌, suc, length, get_or, sym, ap, ◌∙◌, arith}
use Rattle.cfi_compiled.specs.declared.paged_steps.PagedStep.{PagedStep}
use Rattle.cfi_compiled.specs.PagedSteps.{PagedView, step_number, step_offset, view_of}
use Rattle.cfi_compiled.proofs.PagedLists.{passed_few, unpaged}
use Rattle.cfi_compiled.proofs.PagedSearch.{how_many, step_after_first}
use Rattle.cfi_compiled.proofs.paged_steps.PagedSteps.get.Goals as goal

pub returns-then-index-len-clause-step : goal.returns-then-index-len-clause-step
returns-then-index-len-clause-step c =
    let many = how_many c.self.inside.lead c.self.inside.first c.self.inside.ends.items c.self.inside.steps.items c.self.invariant in
    let is = ap (λ (v : PagedView). length v.steps) c.self.view_is in
    omega (arith, many, is, c.if-index-len.true, c.len.ensures, c.self.inside.steps.ok.0)

pub overflow_add-page : goal.overflow_add-page
overflow_add-page c =
    let few : c.pages_passed.result ≤ length c.as_slice.result.now = rw c.pages_passed.ensures (passed_few _ _) in
    omega (arith, few, c.as_slice.ensures.len, c.self.inside.ends.ok.0, c.self.invariant.below)

pub overflow_mul-result : goal.overflow_mul-result
overflow_mul-result c =
    let few : c.pages_passed.result ≤ length c.as_slice.result.now = rw c.pages_passed.ensures (passed_few _ _) in
    omega (arith, few, c.as_slice.ensures.len, c.self.inside.ends.ok.0, c.self.invariant.below)

pub overflow_add-result : goal.overflow_add-result
overflow_add-result c =
    let few : c.pages_passed.result ≤ length c.as_slice.result.now = rw c.pages_passed.ensures (passed_few _ _) in
    let inside : c.args.index - 1 < length c.self.inside.steps.items = omega (arith, c.if-index-eq0.false, c.if-index-len.false, c.len.ensures, c.self.inside.steps.ok.0) in
    let less = c.self.invariant.offsets (c.args.index - 1) c.index-step.result.now inside in
    let offset = ap (λ (s : PagedStep). step_offset s) c.index-step.ensures in
    omega (arith, few, c.as_slice.ensures.len, c.self.inside.ends.ok.0, c.self.invariant.below, less, offset, c.from.ensures, c.offset.ensures)

pub returns-clause-step : goal.returns-clause-step
returns-clause-step c =
    let steps = c.self.inside.steps.items in
    let ends = c.self.inside.ends.items in
    let first = c.self.inside.first in
    let i = c.args.index - 1 in
    let at : c.args.index ≡ suc i = omega (arith, c.if-index-eq0.false) in
    let many = how_many c.self.inside.lead first ends steps c.self.invariant in
    let is = ap (λ (v : PagedView). length v.steps) c.self.view_is in
    let inside : i < length steps = omega (arith, c.if-index-eq0.false, c.if-index-len.false, c.len.ensures, c.self.inside.steps.ok.0) in
    let passed = rw c.as_slice.ensures.value at c.pages_passed.ensures in (
      omega (arith, many, is, inside, at),
      λ d.
          ap (λ (v : PagedView). get_or v.steps c.args.index d) (sym c.self.view_is)
          ∙ ap (λ n. get_or (view_of c.self.inside.lead first ends steps).steps n d) at
          ∙ step_after_first c.self.inside.lead first ends steps c.self.invariant i d c.index-step.result.now inside
          ∙ ap (unpaged first ends i) (sym c.index-step.ensures)
          ∙ ap (λ n. record { start = (first + n) * 512 + step_offset c.index-step.result.now; number = step_number c.index-step.result.now }) (sym passed)
          ∙ ap (λ n. record { start = (first + c.pages_passed.result) * 512 + n; number = step_number c.index-step.result.now }) (sym (c.from.ensures ∙ c.offset.ensures))
          ∙ ap (λ n. record { start = (first + c.pages_passed.result) * 512 + c.from.result; number = n }) (sym c.number.ensures),
    )
