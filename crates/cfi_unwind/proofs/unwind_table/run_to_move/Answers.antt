use Rattle.std.proofs.Common.{ap, ◌∙◌, Ok}
use Rattle.std.proofs.lemmas.Result.{err_from_is_err_and}
use Rattle.cfi_unwind.proofs.TableSteps.{visit-fewer, visit-goes-on, visit-moves, visit-refused, visit-unreadable, visit-last}
use Rattle.cfi_unwind.proofs.unwind_table.run_to_move.Goals as goal

pub loop-moved-init : goal.loop-moved-init
loop-moved-init g c = λ answer after next. next

pub returns-in_err-moved : goal.returns-in_err-moved
returns-in_err-moved g c =
    let p = err_from_is_err_and c.from_residual.result c.from_residual.ensures.1 in
    record { next = rw (p.1, p.2) (visit-unreadable _ _ _ _ _ _ _ _ c.visit_next.result c.visit_next.ensures.visits _ c.loop-moved.invariant _ c.in_err-moved.was) }

pub returns-in_err-address : goal.returns-in_err-address
returns-in_err-address g c =
    let p = err_from_is_err_and c.from_residual-in_err-address.result c.from_residual-in_err-address.ensures.1 in
    record {
      next = rw (p.1, p.2) (visit-refused _ _ _ _ _ _ _ _ c.visit_next.result c.visit_next.ensures.visits _ c.loop-moved.invariant c.in-Some.moved (c.in_ok-moved.was ∙ ap Ok c.in-Some.is) _ c.in_err-address.was);
    }

pub loop-moved-smaller : goal.loop-moved-smaller
loop-moved-smaller g c = visit-fewer _ _ _ _ _ _ _ _ c.visit_next.result c.visit_next.ensures.visits c.in-Some.moved (c.in_ok-moved.was ∙ ap Ok c.in-Some.is)

pub loop-moved-preserved : goal.loop-moved-preserved
loop-moved-preserved g c =
    let still = c.in_ok-address.was ∙ ap Ok c.in_default-2.is in
    visit-goes-on _ _ _ _ _ _ _ _ c.visit_next.result c.visit_next.ensures.visits _ c.loop-moved.invariant c.in-Some.moved (c.in_ok-moved.was ∙ ap Ok c.in-Some.is) still

pub returns-in-Some-2 : goal.returns-in-Some-2
returns-in-Some-2 g c =
    let moves = c.in_ok-address.was ∙ ap Ok c.in-Some-2.is in
    record { next = visit-moves _ _ _ _ _ _ _ _ c.visit_next.result c.visit_next.ensures.visits _ c.loop-moved.invariant c.in-Some.moved (c.in_ok-moved.was ∙ ap Ok c.in-Some.is) _ moves }

pub returns : goal.returns
returns g c = record { next = visit-last _ _ _ _ _ _ _ _ c.visit_next.result c.visit_next.ensures.visits _ c.loop-moved.invariant (c.in_ok-moved.was ∙ ap Ok c.in_default.is) }
