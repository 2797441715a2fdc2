use Rattle.std.proofs.Common.{◌-◌}
use Rattle.std.specs.FinMap as map
use Rattle.cfi_row_text.specs.JsonRows.{json_rule, json_rules}
use Rattle.cfi_text.specs.JsonTexts.{separated}
use Rattle.cfi_row_text.specs.RowLines.{rules_by}
use Rattle.cfi_row_text.specs.Wordings.{worded}
use Rattle.cfi_text.proofs.TextLemmas.{IsPut}
use Rattle.cfi_row_text.proofs.json_row.put_members.Given as goal

abbrev pub invariant-loop-number : goal.invariant-loop-number
invariant-loop-number g l =
    let from = g.S._UnwindSectionPrivate.view l.section in
    let wording = worded l.style from.address_size from.position in
    let parts = g.H.HasRules.parts l.row in
    IsPut l.fn.text l.text
    (separated l.is_first (rules_by (json_rule wording) (65536 - l.number) l.number (map.get parts.rules))) (json_rules wording parts)
