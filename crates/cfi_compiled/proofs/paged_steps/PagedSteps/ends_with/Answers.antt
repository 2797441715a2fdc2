use Rattle.std.proofs.Common.{◌≡◌, ◌+◌, ◌-◌, length, sym, ap, subst, ◌∙◌, arith}
use Rattle.std.proofs.lemmas.Bool.{eqb-true}
use Rattle.cfi_compiled.specs.declared.paged_steps.PagedStep.{PagedStep}
use Rattle.cfi_compiled.specs.CompiledTables.{EndsWith}
use Rattle.cfi_compiled.specs.PagedSteps.{PagedView, step_number}
use Rattle.cfi_compiled.proofs.PagedSearch.{last_ends, lead_ends}
use Rattle.cfi_compiled.proofs.paged_steps.PagedSteps.ends_with.Goals as goal

pub returns-then-count-eq0 : goal.returns-then-count-eq0
returns-then-count-eq0 c same =
    let none : length c.self.inside.steps.items ≡ 0 = omega (arith, c.if-count-eq0.true, c.len-count.ensures, c.self.inside.steps.ok.0) in
    subst (λ (v : PagedView). EndsWith c.args.number v.steps) c.self.view_is
    (lead_ends c.self.inside.lead c.self.inside.first c.self.inside.ends.items c.self.inside.steps.items none c.args.number (eqb-true _ _ same))

pub returns : goal.returns
returns c same =
    let i = c.len-count.result - 1 in
    let last : i + 1 ≡ length c.self.inside.steps.items = omega (arith, c.if-count-eq0.false, c.len-count.ensures, c.self.inside.steps.ok.0) in
    let named : c.number.result ≡ c.args.number = eqb-true _ _ same in
    subst (λ (v : PagedView). EndsWith c.args.number v.steps) c.self.view_is
    (last_ends c.self.inside.lead c.self.inside.first c.self.inside.ends.items c.self.inside.steps.items c.self.invariant i last c.index-last.result.now c.args.number
    (ap (λ (s : PagedStep). step_number s) (sym c.index-last.ensures) ∙ sym c.number.ensures ∙ named))
