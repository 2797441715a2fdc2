use Rattle.std.specs.FinMap as map
use Rattle.cfi_state.specs.RulePairs.{rules_of, IsRising}
use Rattle.cfi_row_text.specs.RowLines.{ruled_saying, rules_by}
use Rattle.cfi_text.proofs.TextLemmas.{IsPut}
use Rattle.cfi_row_text.proofs.row_line.put_rising.Given as goal

abbrev pub invariant-loop-register : goal.invariant-loop-register
invariant-loop-register g l =
    let left = l.register-iterator.rules.now in
    let say = g.E.SaysExpressions.say l.say in
    (goal.iterator-loop-register g).can_next l.register-iterator ×
    (goal.iterator-loop-register g).is_finite l.register-iterator ×
    IsRising left ×
    IsPut l.fn.text l.text (rules_by (ruled_saying say l.names) 65536 0 (map.get (rules_of left))) (rules_by (ruled_saying say l.names) 65536 0 (map.get (rules_of l.fn.rules.rules.now)))
