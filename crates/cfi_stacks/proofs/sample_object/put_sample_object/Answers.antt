use Rattle.cfi_text.proofs.TextLemmas.{both}
use Rattle.cfi_stacks.proofs.sample_object.put_sample_object.Goals as goal

pub returns : goal.returns
returns c =
    both _ _ _ _ _ c.put_sample_head.ensures (both _ _ _ _ _ c.put_frame_objects.ensures c.put_object_end.ensures)
