use Rattle.std.proofs.Common.{◌∙◌, ap, arith}
use Rattle.cfi_row_text.specs.JsonRows.{json_rule}
use Rattle.cfi_text.specs.JsonTexts.{separated}
use Rattle.cfi_row_text.specs.Wordings.{worded}
use Rattle.cfi_row_text.proofs.JsonRowLemmas.{member_first, separated_none}
use Rattle.cfi_row_text.proofs.RowLineLemmas.{put_next, put_same, rules_none, rules_without}
use Rattle.cfi_text.proofs.TextLemmas.{put_all, put_first}
use Rattle.cfi_row_text.proofs.json_row.put_members.Goals as goal
use Rattle.cfi_row_text.proofs.json_row.put_members.Goals.{in-Some, in_default}

pub loop-number-init : goal.loop-number-init
loop-number-init g c = put_first _ _

pub loop-number-preserved : goal.loop-number-preserved
loop-number-preserved g c =
    let from = g.S._UnwindSectionPrivate.view c.args.section.now in
    let wording = worded c.args.style from.address_size from.position in
    let within = c.end-end.ensures.within in
    elim c.match-rule.branch [
      | in-Some w ↦ rw (w.text-is, w.is_first-is)
          (put_next _ _ _ _ _ _ _ (member_first c.loop-number.is_first wording 65536 c.loop-number.number _ _ (omega (arith, within)) w.in-Some.ensures) c.loop-number.invariant w.put_separated.ensures)
      | in_default w ↦ rw (w.text-is, w.is_first-is)
          (put_same _ _ _ _ _ (ap (separated c.loop-number.is_first) (rules_without (json_rule wording) 65536 c.loop-number.number _ (omega (arith, within)) w.in_default.ensures)) c.loop-number.invariant)
    ]

pub returns : goal.returns
returns g c =
    let from = g.S._UnwindSectionPrivate.view c.args.section.now in
    let wording = worded c.args.style from.address_size from.position in
    put_all _ _ _ _ c.loop-number.invariant (ap (separated c.loop-number.is_first) (rules_none (json_rule wording) _ c.loop-number.number _ (λ k h. c.end-end.ensures.above k (omega arith))) ∙ separated_none c.loop-number.is_first)
