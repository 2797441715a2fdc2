use Rattle.cfi_text.proofs.TextLemmas.{both}
use Rattle.cfi_row_text.proofs.expression_words.put_opcode.Goals as goal

pub returns : goal.returns
returns g c = both _ _ _ _ _ c.put.ensures (both _ _ _ _ _ c.put_byte.ensures c.put_bytes_after.ensures)
