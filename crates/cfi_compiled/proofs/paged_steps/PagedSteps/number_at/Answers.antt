use Rattle.std.proofs.Common.{◌≡◌, ◌-◌, ◌<◌, suc, length, get_or, sym, ap, ◌∙◌, arith}
use Rattle.cfi_compiled.specs.declared.paged_steps.PagedStep.{PagedStep}
use Rattle.cfi_compiled.specs.PagedSteps.{PagedView, step_number, view_of}
use Rattle.cfi_compiled.proofs.PagedSearch.{how_many, number_after_first}
use Rattle.cfi_compiled.proofs.paged_steps.PagedSteps.number_at.Goals as goal

pub index-requires : goal.index-requires
index-requires c =
    let many = how_many c.self.inside.lead c.self.inside.first c.self.inside.ends.items c.self.inside.steps.items c.self.invariant in
    let is = ap (λ (v : PagedView). length v.steps) c.self.view_is in
    omega (arith, many, is, c.count_to-count.ensures.inside, c.if-count-eq0.false, c.self.inside.steps.ok.0)

pub returns : goal.returns
returns c =
    let steps = c.self.inside.steps.items in
    let i = c.count_to-count.result - 1 in
    let at : c.count_to-count.result ≡ suc i = omega (arith, c.if-count-eq0.false) in
    let many = how_many c.self.inside.lead c.self.inside.first c.self.inside.ends.items steps c.self.invariant in
    let is = ap (λ (v : PagedView). length v.steps) c.self.view_is in
    let inside : i < length steps = omega (arith, many, is, c.count_to-count.ensures.inside, c.if-count-eq0.false) in (
      c.count_to-count.result,
      c.count_to-count.ensures,
      λ d.
          ap (λ (v : PagedView). (get_or v.steps c.count_to-count.result d).number) (sym c.self.view_is)
          ∙ ap (λ n. (get_or (view_of c.self.inside.lead c.self.inside.first c.self.inside.ends.items steps).steps n d).number) at
          ∙ number_after_first c.self.inside.lead c.self.inside.first c.self.inside.ends.items steps c.self.invariant i d c.index.result.now inside
          ∙ ap (λ (s : PagedStep). step_number s) (sym c.index.ensures)
          ∙ sym c.number.ensures,
    )
