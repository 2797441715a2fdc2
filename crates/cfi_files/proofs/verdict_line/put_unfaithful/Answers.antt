use Rattle.cfi_text.proofs.TextLemmas.{both}
use Rattle.cfi_files.proofs.verdict_line.put_unfaithful.Goals as goal

pub returns : goal.returns
returns c = both _ _ _ _ _ c.put.ensures (both _ _ _ _ _ c.put_reason.ensures c.put-2.ensures)
