use Rattle.cfi_text.proofs.TextLemmas.{both}
use Rattle.cfi_stacks.proofs.folded_text.put_stack.Goals as goal

pub returns : goal.returns
returns c = both _ _ _ _ _ c.put_thread.ensures c.put_frames.ensures
