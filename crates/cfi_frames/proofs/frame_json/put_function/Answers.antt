use Rattle.cfi_text.proofs.TextLemmas.{both}
use Rattle.cfi_frames.proofs.frame_json.put_function.Goals as goal

pub returns-in-Some : goal.returns-in-Some
returns-in-Some c = rw c.in-Some.is (both _ _ _ _ _ c.put.ensures (both _ _ _ _ _ c.escaped.ensures (both _ _ _ _ _ c.put-in-Some.ensures c.json_number.ensures)))
