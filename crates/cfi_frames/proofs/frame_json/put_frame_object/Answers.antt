use Rattle.cfi_text.proofs.TextLemmas.{both}
use Rattle.cfi_frames.proofs.frame_json.put_frame_object.Goals as goal

pub returns : goal.returns
returns c =
    both _ _ _ _ _ c.put_comma.ensures (both _ _ _ _ _ c.put_opening.ensures (both _ _ _ _ _ c.put_site.ensures c.put_closing.ensures))
