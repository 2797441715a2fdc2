use Rattle.cfi_text.proofs.TextLemmas.{both}
use Rattle.cfi_flame.proofs.counts.put_line.Goals as goal

pub returns : goal.returns
returns c = both _ _ _ _ _ c.put.ensures (both _ _ _ _ _ c.put-2.ensures (both _ _ _ _ _ c.number.ensures c.put-3.ensures))
