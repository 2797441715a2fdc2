use Rattle.std.proofs.Common.{◌≡◌, ◌∙◌, ap}
use Rattle.std.specs.FinMap as map
use Rattle.cfi_text.proofs.TextLemmas.{both, same}
use Rattle.cfi_row_text.specs.RowLines.{parts_rules, ruled, rules_by}
use Rattle.cfi_row_text.proofs.plain_rows.put_row.Goals as goal

pub returns : goal.returns
returns g c =
    let rules : c.text.result.now ≡ parts_rules c.args.names c.args.row.now.parts =
    c.text.ensures ∙ c.requires.kept ∙ ap (λ rules. rules_by (ruled c.args.names) 65536 0 (map.get rules)) c.requires.same in
    both _ _ _ _ _ (both _ _ _ _ _ c.put_head.ensures (same _ _ _ _ rules c.put.ensures)) c.put-2.ensures
