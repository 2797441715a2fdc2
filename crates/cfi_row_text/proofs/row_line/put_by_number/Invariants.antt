use Rattle.std.proofs.Common.{◌-◌}
use Rattle.std.specs.FinMap as map
use Rattle.cfi_row_text.specs.RowLines.{ruled_saying, rules_by, rules_saying}
use Rattle.cfi_text.proofs.TextLemmas.{IsPut}
use Rattle.cfi_row_text.proofs.row_line.put_by_number.Given as goal

abbrev pub invariant-loop-number : goal.invariant-loop-number
invariant-loop-number g l =
    let say = g.E.SaysExpressions.say l.say in
    let parts = g.H.HasRules.parts l.row in
    IsPut l.fn.text l.text (rules_by (ruled_saying say l.names) (65536 - l.number) l.number (map.get parts.rules)) (rules_saying say l.names parts)
