use Rattle.cfi_text.proofs.TextLemmas.{both}
use Rattle.cfi_core_stacks.proofs.thread_object.put_thread_object.Goals as goal

pub returns : goal.returns
returns c = both _ _ _ _ _ c.put_head.ensures (both _ _ _ _ _ c.put_frame_objects.ensures c.put_object_end.ensures)
