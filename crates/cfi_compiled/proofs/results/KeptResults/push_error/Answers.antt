use Rattle.std.proofs.Common.{◌≡◌, ◌∷◌, ◌++◌, [], length, Err, ap, ◌∙◌, arith}
use Rattle.cfi_compiled.specs.ResultLists.{results_kept}
use Rattle.cfi_compiled.proofs.ResultLists.{error_pushed, if_failed, same_results}
use Rattle.cfi_compiled.proofs.results.KeptResults.push_error.Goals as goal

pub returns-in_err-push-2-clause-kept : goal.returns-in_err-push-2-clause-kept
returns-in_err-push-2-clause-kept c =
    let kept : results_kept c.push.new.self.items c.push-2.new.self.items ≡ c.args.self.now =
    rw (c.in_err-push-2.ensures.items, c.in_ok-push.ensures.items)
    (same_results c.self.inside.errors.items c.args.error c.self.inside.rows.items c.self.invariant ∙ c.self.view_is) in
    if_failed _ kept

pub returns-clause-pushed : goal.returns-clause-pushed
returns-clause-pushed c =
    let offset : c.len-offset.result ≡ length c.self.inside.errors.items = omega (arith, c.len-offset.ensures, c.self.inside.errors.ok.0) in
    let pushed : results_kept c.push.new.self.items c.push-2.new.self.items ≡ results_kept c.self.inside.errors.items c.self.inside.rows.items ++ Err c.args.error ∷ [] =
    rw (c.in_ok-push-2.ensures.items, c.in_ok-push.ensures.items, offset)
    (error_pushed c.self.inside.errors.items c.args.error c.self.inside.rows.items c.self.invariant) in
    pushed ∙ ap (λ l. l ++ Err c.args.error ∷ []) c.self.view_is
