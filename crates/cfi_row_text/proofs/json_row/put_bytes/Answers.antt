use Rattle.std.proofs.Common.{◌∙◌, ap, arith}
use Rattle.cfi_row_text.specs.JsonRows.{bytes_of_rule, rules_end}
use Rattle.cfi_row_text.specs.Wordings.{worded}
use Rattle.cfi_row_text.proofs.JsonRowLemmas.{bytes_first, bytes_without, ended_none}
use Rattle.cfi_row_text.proofs.RowLineLemmas.{put_last, put_next, put_same, rules_none}
use Rattle.cfi_text.proofs.TextLemmas.{both, put_first}
use Rattle.cfi_row_text.proofs.json_row.put_bytes.Goals as goal
use Rattle.cfi_row_text.proofs.json_row.put_bytes.Goals.{in-Some, in_default}

pub loop-number-init : goal.loop-number-init
loop-number-init g c = put_first _ _

pub loop-number-preserved : goal.loop-number-preserved
loop-number-preserved g c =
    let from = g.S._UnwindSectionPrivate.view c.args.section.now in
    let wording = worded c.args.style from.address_size from.position in
    let within = c.end-end.ensures.within in
    elim c.match-expression_at.branch [
      | in-Some w ↦ rw (w.text-is, w.is_first-is)
          (put_next _ _ _ _ _ _ _ (bytes_first wording c.loop-number.is_first 65536 c.loop-number.number _ _ (omega (arith, within)) w.in-Some.ensures) c.loop-number.invariant
          (both _ _ _ _ _ w.put_opening.ensures w.put_bytes_member.ensures))
      | in_default w ↦ rw (w.text-is, w.is_first-is)
          (put_same _ _ _ _ _ (ap (rules_end c.loop-number.is_first) (bytes_without wording 65536 c.loop-number.number _ (omega (arith, within)) w.in_default.ensures)) c.loop-number.invariant)
    ]

pub returns : goal.returns
returns g c =
    let from = g.S._UnwindSectionPrivate.view c.args.section.now in
    let wording = worded c.args.style from.address_size from.position in
    let none = ap (rules_end c.loop-number.is_first) (rules_none (bytes_of_rule wording) _ c.loop-number.number _ (λ k h. c.end-end.ensures.above k (omega arith))) ∙ ended_none c.loop-number.is_first in
    put_last _ _ _ _ _ _ none c.loop-number.invariant c.put.ensures
