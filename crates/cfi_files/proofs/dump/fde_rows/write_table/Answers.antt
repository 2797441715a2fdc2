use Rattle.std.proofs.Common.{◌∙◌, ap, refl, sym, Some}
use Rattle.cfi_state.specs.ContextEffects.{setting_of}
use Rattle.cfi_files.proofs.SendingLemmas.{failed, fails_line, passes_line}
use Rattle.cfi_files.proofs.FdeRowsSent.{all_sent, fewer_after, line_failed, line_sent, stands_first}
use Rattle.cfi_files.proofs.dump.fde_rows.write_table.Goals as goal

pub loop-answer-init : goal.loop-answer-init
loop-answer-init g c = (refl, λ program stands first sent is. stands_first _ _ _ _ _ _ _ program stands is)

pub loop-answer-smaller : goal.loop-answer-smaller
loop-answer-smaller g c = fewer_after _ _ _ c.next_row.result _ _ c.next_row.follows.holds-at-none.0 c.in-Some.answer (sym c.transpose.ensures ∙ c.in-Some.is)

pub loop-answer-preserved : goal.loop-answer-preserved
loop-answer-preserved g c = (
  ap (λ p. setting_of p (Some 192) (Some 4)) c.next_row.follows.holds-at-none.1 ∙ c.loop-answer.invariant.0,
  λ program stands first sent is. line_sent _ refl refl _ c.loop-answer.invariant.0 _ _ c.next_row.result _ _ c.next_row.follows.holds-at-none.0 _ _ _ _ _ (c.loop-answer.invariant.1 program stands first sent is) c.in-Some.answer
      (sym c.transpose.ensures ∙ c.in-Some.is) _ _ (passes_line _ _ _ _ _ _ c.put_line.ensures c.in_ok-write_if_full.ensures),
)

pub returns-in_err-write_if_full : goal.returns-in_err-write_if_full
returns-in_err-write_if_full g c program stands first sent is =
    failed _ _ _ _ _ c.from_residual.ensures.0
    (line_failed _ refl refl _ c.loop-answer.invariant.0 _ _ c.next_row.result _ _ c.next_row.follows.holds-at-none.0 _ _ _ _ _ (c.loop-answer.invariant.1 program stands first sent is) c.in-Some.answer
    (sym c.transpose.ensures ∙ c.in-Some.is) _ (fails_line _ _ _ _ _ c.put_line.ensures c.in_err-write_if_full.ensures))

pub returns : goal.returns
returns g c program stands first sent is =
    all_sent _ refl refl _ c.loop-answer.invariant.0 _ _ c.next_row.result _ _ c.next_row.follows.holds-at-none.0 _ _ _ _ _ (c.loop-answer.invariant.1 program stands first sent is) (sym c.transpose.ensures ∙ c.in_default.is)
