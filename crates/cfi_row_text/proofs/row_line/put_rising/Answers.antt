use Rattle.std.proofs.Common.{◌≡◌, ◌++◌, arith}
use Rattle.std.specs.FinMap as map
use Rattle.cfi_state.specs.RulePairs.{rules_of}
use Rattle.cfi_row_text.specs.RowLines.{ruled_saying, rules_by}
use Rattle.cfi_row_text.proofs.RowLineLemmas.{get_of_none, put_next, rising_rest, rules_none, rules_rise}
use Rattle.cfi_text.proofs.TextLemmas.{put_all}
use Rattle.cfi_row_text.proofs.row_line.put_rising.Goals as goal

pub loop-register-preserved : goal.loop-register-preserved
loop-register-preserved g c =
    let say = ruled_saying (g.E.SaysExpressions.say c.args.say.now) c.args.names in
    let pair = c.in-Some.field-0.now in
    let left = c.next.new.self.rules.now in
    let rising = rw (c.in-Some.ensures.steps) at c.loop-register.invariant.2 in
    let given = rw (c.in-Some.ensures.steps) at c.loop-register.invariant.3 in
    (tt, tt, rising_rest pair left rising, put_next _ _ _ _ _ _ _ (rules_rise say pair left rising (omega (arith, c.put_ruled_saying.ensures.within))) given c.put_ruled_saying.ensures.text)

pub returns : goal.returns
returns g c = put_all _ _ _ _ c.loop-register.invariant.3 (rw (c.in-None.ensures.steps.0) (rules_none _ 65536 0 _ (λ k h. get_of_none k)))
