use Rattle.std.proofs.Common.{ap, ◌∙◌, Ok}
use Rattle.std.proofs.lemmas.Result.{err_from_is_err_and}
use Rattle.cfi_unwind.proofs.TableSteps.{visit-fewer, visit-initial-stays, visit-initial-moves, visit-initial-ends, visit-none-left, cie-starts, visit-cie-stays, visit-cie-moves, visit-cie-refuses, visit-cie-unread, visit-cie-ends, cie-ends}
use Rattle.cfi_unwind.proofs.unwind_table.run_initial.Goals as goal

pub loop-moved-init : goal.loop-moved-init
loop-moved-init g c = (cie-starts _ _ _ c.args.context.now _ c.requires.empty, ap (λ x. x.initial_rules) c.requires.empty)

pub returns-in_err-moved : goal.returns-in_err-moved
returns-in_err-moved g c =
    let p = err_from_is_err_and c.from_residual.result c.from_residual.ensures.1 in
    rw (p.1, p.2) (visit-cie-unread _ _ _ _ _ _ _ _ c.visit_next.result c.visit_next.ensures.visits _ c.loop-moved.invariant.0 _ c.in_err-moved.was)

pub returns-in_err-address : goal.returns-in_err-address
returns-in_err-address g c =
    let p = err_from_is_err_and c.from_residual-in_err-address.result c.from_residual-in_err-address.ensures.1 in
    rw (p.1, p.2) (visit-cie-refuses _ _ _ _ _ _ _ _ c.visit_next.result c.visit_next.ensures.visits _ c.loop-moved.invariant.0 c.in-Some.moved (c.in_ok-moved.was ∙ ap Ok c.in-Some.is) _ c.in_err-address.was)

pub loop-moved-smaller-in-Some-2 : goal.loop-moved-smaller-in-Some-2
loop-moved-smaller-in-Some-2 g c = visit-fewer _ _ _ _ _ _ _ _ c.visit_next.result c.visit_next.ensures.visits c.in-Some.moved (c.in_ok-moved.was ∙ ap Ok c.in-Some.is)

pub loop-moved-preserved-in-Some-2 : goal.loop-moved-preserved-in-Some-2
loop-moved-preserved-in-Some-2 g c =
    let moves = c.in_ok-address.was ∙ ap Ok c.in-Some-2.is in
    let found = c.in_ok-moved.was ∙ ap Ok c.in-Some.is in (
      visit-cie-moves _ _ _ _ _ _ _ _ c.visit_next.result c.visit_next.ensures.visits _ c.loop-moved.invariant.0 c.in-Some.moved found _ moves,
      visit-initial-moves _ _ _ _ _ _ _ _ c.visit_next.result c.visit_next.ensures.visits c.in-Some.moved found _ moves ∙ c.loop-moved.invariant.1,
    )

pub loop-moved-smaller : goal.loop-moved-smaller
loop-moved-smaller g c = visit-fewer _ _ _ _ _ _ _ _ c.visit_next.result c.visit_next.ensures.visits c.in-Some.moved (c.in_ok-moved.was ∙ ap Ok c.in-Some.is)

pub loop-moved-preserved : goal.loop-moved-preserved
loop-moved-preserved g c =
    let still = c.in_ok-address.was ∙ ap Ok c.in_default-2.is in
    let found = c.in_ok-moved.was ∙ ap Ok c.in-Some.is in (
      visit-cie-stays _ _ _ _ _ _ _ _ c.visit_next.result c.visit_next.ensures.visits _ c.loop-moved.invariant.0 c.in-Some.moved found still,
      visit-initial-stays _ _ _ _ _ _ _ _ c.visit_next.result c.visit_next.ensures.visits c.in-Some.moved found still ∙ c.loop-moved.invariant.1,
    )

pub end_cie-requires : goal.end_cie-requires
end_cie-requires g c = visit-initial-ends _ _ _ _ _ _ _ _ c.visit_next.result c.visit_next.ensures.visits (c.in_ok-moved.was ∙ ap Ok c.in_default.is) ∙ c.loop-moved.invariant.1

pub returns : goal.returns
returns g c =
    let none_left = c.in_ok-moved.was ∙ ap Ok c.in_default.is in
    cie-ends _ _ _ _ c.visit_next.new.target c.end_cie.new.context _ _ (visit-cie-ends _ _ _ _ _ _ _ _ c.visit_next.result c.visit_next.ensures.visits _ c.loop-moved.invariant.0 none_left)
    (visit-none-left _ _ _ _ _ _ _ _ c.visit_next.result c.visit_next.ensures.visits none_left) c.end_cie.result (c.end_cie.ensures c.args.parameters.now _)
