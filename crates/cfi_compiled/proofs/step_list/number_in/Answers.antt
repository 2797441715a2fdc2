use Rattle.std.proofs.Common.{◌≡◌, ◌+◌, ◌-◌, ◌<◌, length, ap, subst, arith}
use Rattle.cfi_compiled.specs.declared.step_list.NumberedStep.{NumberedStep}
use Rattle.cfi_compiled.specs.SearchedSteps.{IsSplit}
use Rattle.cfi_compiled.proofs.PagedTables.{any_default}
use Rattle.cfi_compiled.proofs.step_list.number_in.Goals as goal

pub returns : goal.returns
returns c =
    let k = c.count_to-count.result - 1 in
    let at : c.count_to-count.result ≡ k + 1 = omega (arith, c.if-count-eq0.false) in
    let inside : k < length c.args.steps.now = omega (arith, c.count_to-count.ensures.inside, c.if-count-eq0.false) in (
      k,
      subst (λ n. IsSplit c.args.steps.now c.args.address n) at c.count_to-count.ensures,
      λ d. ap (λ (s : NumberedStep). s.number) (any_default c.args.steps.now k d _ inside),
    )
