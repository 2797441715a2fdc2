use Rattle.cfi_text.proofs.TextLemmas.{both}
use Rattle.cfi_row_text.proofs.json_row.put_cfa_bytes.Goals as goal

pub returns-in-Expression : goal.returns-in-Expression
returns-in-Expression g c = rw c.in-Expression.is (both _ _ _ _ _ c.put.ensures (both _ _ _ _ _ c.put_bytes_of.ensures c.put-in-Expression.ensures))
