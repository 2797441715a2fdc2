use Rattle.cfi_text.proofs.TextLemmas.{both}
use Rattle.cfi_row_text.proofs.row_line.put_row.Goals as goal

pub returns : goal.returns
returns g c = both _ _ _ _ _ (both _ _ _ _ _ c.put_head.ensures c.put_rules.ensures) c.put.ensures
