use Rattle.cfi_text.proofs.TextLemmas.{both}
use Rattle.cfi_row_text.proofs.refusal_text.put_error_words.Goals as goal

pub returns : goal.returns
returns c = both _ _ _ _ _ c.put.ensures (both _ _ _ _ _ c.show.ensures c.put-2.ensures)
