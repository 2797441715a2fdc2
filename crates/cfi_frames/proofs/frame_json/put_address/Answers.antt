use Rattle.cfi_text.proofs.TextLemmas.{both}
use Rattle.cfi_frames.proofs.frame_json.put_address.Goals as goal

pub returns : goal.returns
returns c = both _ _ _ _ _ c.put.ensures (both _ _ _ _ _ c.address.ensures c.put-2.ensures)
