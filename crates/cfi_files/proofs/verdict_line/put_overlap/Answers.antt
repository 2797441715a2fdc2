use Rattle.cfi_text.proofs.TextLemmas.{both}
use Rattle.cfi_files.proofs.verdict_line.put_overlap.Goals as goal

pub returns : goal.returns
returns c = both _ _ _ _ _ c.put.ensures (both _ _ _ _ _ c.address.ensures (both _ _ _ _ _ c.put-2.ensures (both _ _ _ _ _ c.address-2.ensures (both _ _ _ _ _ c.put-3.ensures c.address-3.ensures))))
