use Rattle.std.proofs.Common.{refl, ap, ◌∙◌, Ok}
use Rattle.std.proofs.lemmas.Bool.{false≢true}
use Rattle.std.proofs.lemmas.Result.{err_from_is_err_and}
use Rattle.cfi_parts.specs.InstructionIterators.{instruction_reader}
use Rattle.cfi_parts.specs.InstructionReaders.{instructions_left}
use Rattle.cfi_state.specs.ContextEffects.{setting_of}
use Rattle.cfi_unwind.proofs.TableSteps.{answer-starts, answer-refused, answer-goes-on, answer-row, answer-refusal, answer-none, answer-fewer, row-inside, row-outside}
use Rattle.cfi_unwind.proofs.fde_rows.row_of_programs.Goals as goal

pub loop-row-init : goal.loop-row-init
loop-row-init g c = (
  answer-starts _ _ _ _ _ _ _ c.in_ok-table.ensures.cie refl (ap (λ i. instructions_left (instruction_reader g.R.Reader.position i)) c.in_ok-table.ensures.fde) c.in_ok-table.ensures.has_ended,
  c.in_ok-table.ensures.parameters,
)

pub loop-row-preserved : goal.loop-row-preserved
loop-row-preserved g c = (
  answer-goes-on _ _ _ _ _ _ _ c.loop-row.invariant.0 _ (ap (λ p. setting_of p _ _) c.loop-row.invariant.1) c.next_row.result _ _ _ c.next_row.follows.holds-at-none.0 c.in-Some.row (c.in_ok-row.was ∙ ap Ok c.in-Some.is)
      (row-outside c.args.address c.in-Some.row.now (λ inside. false≢true (c.if-contains.ensures.1 inside))),
  c.next_row.follows.holds-at-none.1 ∙ c.loop-row.invariant.1,
)

pub loop-row-smaller : goal.loop-row-smaller
loop-row-smaller g c =
    answer-fewer _ _ _ _ _ _ _ c.loop-row.invariant.0 _ (ap (λ p. setting_of p _ _) c.loop-row.invariant.1) c.next_row.result _ _ _ c.next_row.follows.holds-at-none.0 c.in-Some.row (c.in_ok-row.was ∙ ap Ok c.in-Some.is)

pub returns-in_err-table : goal.returns-in_err-table
returns-in_err-table g c =
    let p = err_from_is_err_and c.from_residual.result c.from_residual.ensures.1 in
    let answers = answer-refused _ _ _ _ c.args.address _ c.in_err-table.field-0.0 c.in_err-table.ensures.cie refl in
    rw (p.1, p.2) (record { run = answers })

pub returns-in_err-row : goal.returns-in_err-row
returns-in_err-row g c =
    let p = err_from_is_err_and c.from_residual-in_err-row.result c.from_residual-in_err-row.ensures.1 in
    let answers = answer-refusal _ _ _ _ c.args.address _ _ c.loop-row.invariant.0 _ (ap (λ p. setting_of p _ _) c.loop-row.invariant.1) c.next_row.result _ _ _ c.next_row.follows.holds-at-none.0 c.in_err-row.field-0.0 c.in_err-row.was in
    rw (p.1, p.2) (record { run = answers })

pub returns-then-contains : goal.returns-then-contains
returns-then-contains g c =
    let answers = answer-row _ _ _ _ c.args.address _ _ c.loop-row.invariant.0 _ (ap (λ p. setting_of p _ _) c.loop-row.invariant.1) c.next_row.result _ _ _ c.next_row.follows.holds-at-none.0 c.in-Some.row (c.in_ok-row.was ∙ ap Ok c.in-Some.is)
    (row-inside c.args.address c.in-Some.row.now (c.if-contains.ensures.0 refl)) in
    rw c.in-Some-into_current_row.ensures.some.0 (record { run = answers })

pub returns : goal.returns
returns g c =
    let answers = answer-none _ _ _ _ c.args.address _ _ c.loop-row.invariant.0 _ (ap (λ p. setting_of p _ _) c.loop-row.invariant.1) c.next_row.result _ _ _ c.next_row.follows.holds-at-none.0 (c.in_ok-row.was ∙ ap Ok c.in_default.is) in
    record { run = answers }
