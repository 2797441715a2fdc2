use Rattle.std.proofs.Common.{◌≡◌, ◌<◌, List, length, take, get_or, sym, ap, subst, ◌∙◌, arith}
use Rattle.cfi_compiled.specs.declared.step_list.NumberedStep.{NumberedStep}
use Rattle.cfi_compiled.proofs.PagedTables.{listed_more}
use Rattle.cfi_compiled.proofs.paged_steps.PagedSteps.to_list.Goals as goal

pub loop-step-preserved : goal.loop-step-preserved
loop-step-preserved c =
    let all = c.args.self.now.steps in
    let listed = c.loop-step.list.items in
    let count : c.len.result ≡ length listed = omega (arith, c.len.ensures, c.loop-step.list.ok.0) in
    let inside : length listed < length all = omega (arith, count, c.in-Some.ensures.step.0) in
    let more = listed_more all listed c.in-Some.step c.loop-step.invariant inside (λ d. ap (λ n. get_or all n d) (sym count) ∙ c.in-Some.ensures.step.1 d) in
    subst (λ (l : List NumberedStep). l ≡ take (length l) all) (sym c.in_ok-push.ensures.items) more
