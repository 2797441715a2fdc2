use Rattle.cfi_text.proofs.TextLemmas.{both}
use Rattle.cfi_row_text.proofs.json_row.put_json_row.Goals as goal

pub returns : goal.returns
returns g c = both _ _ _ _ _ c.put.ensures c.put_json_members.ensures
