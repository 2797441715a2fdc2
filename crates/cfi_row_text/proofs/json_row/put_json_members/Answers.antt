use Rattle.cfi_text.proofs.TextLemmas.{both}
use Rattle.cfi_row_text.proofs.json_row.put_json_members.Goals as goal

pub returns : goal.returns
returns g c = both _ _ _ _ _ (both _ _ _ _ _ c.put_head.ensures (both _ _ _ _ _ c.put_members.ensures (both _ _ _ _ _ c.put_bytes.ensures c.put.ensures))) c.put-2.ensures
