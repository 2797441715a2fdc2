use Rattle.std.proofs.Common.{◌+◌, ◌-◌, ◌/◌, ◌<◌, List, [], ◌∷◌, ◌++◌, length, get_or, sym, ap, ◌∙◌, arith}
use Rattle.std.proofs.lemmas.List.{take_more}
use Rattle.cfi_compiled.specs.declared.step_list.NumberedStep.{NumberedStep}
use Rattle.cfi_compiled.proofs.PagedTables.{any_default, pages_in_order}
use Rattle.cfi_compiled.proofs.paged_steps.PagedSteps.of.Goals as goal

pub overflow_sub-pages-2 : goal.overflow_sub-pages-2
overflow_sub-pages-2 c = pages_in_order c.args.steps.now c.requires 1 (length c.args.steps.now - 1) _ (omega (arith, c.if-steps-lt2.false)) (omega (arith, c.if-steps-lt2.false))

pub loop-index-preserved : goal.loop-index-preserved
loop-index-preserved c =
    let steps = c.args.steps.now in
    let index = c.loop-index.index in
    let none : NumberedStep = record { start = 0; number = 0 } in
    let step = get_or steps index none in
    let inside : index < length steps = omega (arith, c.loop-index-test.true) in
    record {
      so_far =
          c.in_ok-push.ensures.steps
          ∙ ap (λ (l : List NumberedStep). l ++ step ∷ []) c.loop-index.invariant.so_far
          ∙ sym (take_more steps index none inside);
      page = λ d less.
          let up = pages_in_order steps c.requires index (index + 1) d (omega arith) less in
          let same = ap (λ (s : NumberedStep). s.start / 512) (any_default steps index none d inside) in
          omega (arith, up, same, c.in_ok-push.ensures.page);
    }
