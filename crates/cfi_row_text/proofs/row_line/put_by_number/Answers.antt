use Rattle.std.proofs.Common.{arith}
use Rattle.cfi_row_text.specs.RowLines.{ruled_saying}
use Rattle.cfi_row_text.proofs.RowLineLemmas.{put_next, put_same, rules_none, rules_with, rules_without}
use Rattle.cfi_text.proofs.TextLemmas.{put_all, put_first}
use Rattle.cfi_row_text.proofs.row_line.put_by_number.Goals as goal
use Rattle.cfi_row_text.proofs.row_line.put_by_number.Goals.{in-Some, in_default}

pub loop-number-init : goal.loop-number-init
loop-number-init g c = put_first _ _

pub loop-number-preserved : goal.loop-number-preserved
loop-number-preserved g c =
    let say = ruled_saying (g.E.SaysExpressions.say c.args.say.now) c.args.names in
    let within = c.end-end.ensures.within in
    elim c.match-rule.branch [
      | in-Some w ↦ rw w.text-is
          (put_next _ _ _ _ _ _ _ (rules_with say 65536 c.loop-number.number _ _ (omega (arith, within)) w.in-Some.ensures) c.loop-number.invariant w.put_ruled_saying.ensures.text)
      | in_default w ↦ rw w.text-is
          (put_same _ _ _ _ _ (rules_without say 65536 c.loop-number.number _ (omega (arith, within)) w.in_default.ensures) c.loop-number.invariant)
    ]

pub returns : goal.returns
returns g c =
    let say = ruled_saying (g.E.SaysExpressions.say c.args.say.now) c.args.names in
    put_all _ _ _ _ c.loop-number.invariant (rules_none say _ c.loop-number.number _ (λ k h. c.end-end.ensures.above k (omega arith)))
