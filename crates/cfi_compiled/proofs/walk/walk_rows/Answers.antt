use Rattle.std.proofs.Common.{◌≤◌, ◌<◌, refl, sym, ap, ◌∙◌, ⊎_elim, arith}
use Rattle.std.proofs.lemmas.Bool.{cases_lt}
use Rattle.cfi_state.specs.ContextEffects.{setting_of}
use Rattle.cfi_compiled.proofs.RowSteps.{fewer, row_comes, refusal_comes, none_comes, walked_none, kept_before, walked_row, walked_all, walked_refusal, walked_nothing}
use Rattle.cfi_compiled.proofs.walk.walk_rows.Goals as goal

pub loop-answer-init : goal.loop-answer-init
loop-answer-init g c = record { setting = refl; free = c.requires.free; walked = walked_none _ _ _ _ _ _ _ c.requires.start c.requires.some c.requires.last c.requires.consecutive }

pub loop-answer-smaller : goal.loop-answer-smaller
loop-answer-smaller g c =
    fewer _ _ c.loop-answer.invariant.setting _ _ _ c.next_row.result _ _ c.next_row.follows.holds-at-none.0 c.in-Some.answer (sym c.transpose.ensures ∙ c.in-Some.is) c.in-Ok.row c.in-Ok.is

pub loop-answer-preserved : goal.loop-answer-preserved
loop-answer-preserved g c =
    let is = row_comes _ _ c.loop-answer.invariant.setting _ _ _ c.next_row.result _ _ c.next_row.follows.holds-at-none.0 c.in-Some.answer (sym c.transpose.ensures ∙ c.in-Some.is) c.in-Ok.row c.in-Ok.is in
    let ends = c.end_address-to.ensures in
    let greater = c.greater-from.ensures in
    let before : c.in-Ok.row.now.end_address < c.args.end = omega (arith, ends, c.if-end-to.false) in
    let taken = c.in_ok-take_row-in-Ok.ensures in
    let low : c.loop-answer.from ≤ c.greater-from.result = greater.first in
    let high : c.in-Ok.row.now.end_address ≤ c.greater-from.result = omega (arith, ends, greater.second) in
    let free : g.K.StepSink.free c.take_row.new.sink ≤ c.greater-from.result =
    ⊎_elim
    (λ (less : c.loop-answer.from < c.in-Ok.row.now.end_address). omega (arith, taken.free, high))
    (λ (none : c.in-Ok.row.now.end_address ≤ c.loop-answer.from). let at = taken.free_at none in omega (arith, at, low))
    (cases_lt c.loop-answer.from c.in-Ok.row.now.end_address) in
    record {
      setting = ap (λ p. setting_of p g.C.Rules.ArrayLike.limit g.C-Stack-ArrayLike.limit) c.next_row.follows.holds-at-none.1 ∙ c.loop-answer.invariant.setting;
      free = free;
      walked = walked_row _ _ _ _ _ _ _ _ _ c.loop-answer.invariant.walked _ c.in-Ok.row.now is _ taken.before taken.within c.greater-from.result before low high (rw ends at greater.either);
    }

pub returns-then-end-to-clause-before : goal.returns-then-end-to-clause-before
returns-then-end-to-clause-before g c = kept_before _ _ _ _ _ _ _ _ _ c.loop-answer.invariant.walked _ c.in_ok-take_row-in-Ok.ensures.before

pub returns-then-end-to-clause-within : goal.returns-then-end-to-clause-within
returns-then-end-to-clause-within g c =
    let is = row_comes _ _ c.loop-answer.invariant.setting _ _ _ c.next_row.result _ _ c.next_row.follows.holds-at-none.0 c.in-Some.answer (sym c.transpose.ensures ∙ c.in-Some.is) c.in-Ok.row c.in-Ok.is in
    let past : c.args.end ≤ c.in-Ok.row.now.end_address = omega (arith, c.end_address-to.ensures, c.if-end-to.true) in
    walked_all _ _ _ _ _ _ _ _ _ c.loop-answer.invariant.walked _ c.in-Ok.row.now is _ c.in_ok-take_row-in-Ok.ensures.before c.in_ok-take_row-in-Ok.ensures.within past

pub returns-then-end-to-clause-free : goal.returns-then-end-to-clause-free
returns-then-end-to-clause-free g c = omega (arith, c.in_ok-take_row-in-Ok.ensures.free, c.loop-answer.invariant.walked.inside)

pub take_refusal-requires : goal.take_refusal-requires
take_refusal-requires g c = c.loop-answer.invariant.free

pub returns-in-Err-clause-before : goal.returns-in-Err-clause-before
returns-in-Err-clause-before g c = kept_before _ _ _ _ _ _ _ _ _ c.loop-answer.invariant.walked _ c.in_ok-take_refusal-in-Err.ensures.before

pub returns-in-Err-clause-within : goal.returns-in-Err-clause-within
returns-in-Err-clause-within g c =
    let is = refusal_comes _ _ c.loop-answer.invariant.setting _ _ _ c.next_row.result _ _ c.next_row.follows.holds-at-none.0 c.in-Some.answer (sym c.transpose.ensures ∙ c.in-Some.is) c.in-Err.refusal c.in_ok-take_refusal-in-Err.ensures.due c.in-Err.is in
    λ a low high. walked_refusal _ _ _ _ _ _ _ _ _ c.loop-answer.invariant.walked _ c.in_ok-take_refusal-in-Err.ensures.before _ c.in-Err.refusal is c.in_ok-take_refusal-in-Err.ensures.after a low

pub returns-in-Err-clause-free : goal.returns-in-Err-clause-free
returns-in-Err-clause-free g c = omega (arith, c.in_ok-take_refusal-in-Err.ensures.free, c.loop-answer.invariant.walked.inside)

pub returns-clause-before : goal.returns-clause-before
returns-clause-before g c =
    absurd (walked_nothing _ _ _ _ _ _ _ _ _ c.loop-answer.invariant.walked
    (none_comes _ _ c.loop-answer.invariant.setting _ _ _ c.next_row.result _ _ c.next_row.follows.holds-at-none.0 (sym c.transpose.ensures ∙ c.in_default.is)))

pub returns-clause-within : goal.returns-clause-within
returns-clause-within g c =
    absurd (walked_nothing _ _ _ _ _ _ _ _ _ c.loop-answer.invariant.walked
    (none_comes _ _ c.loop-answer.invariant.setting _ _ _ c.next_row.result _ _ c.next_row.follows.holds-at-none.0 (sym c.transpose.ensures ∙ c.in_default.is)))

pub returns-clause-free : goal.returns-clause-free
returns-clause-free g c = omega (arith, c.loop-answer.invariant.free, c.loop-answer.invariant.walked.inside)
