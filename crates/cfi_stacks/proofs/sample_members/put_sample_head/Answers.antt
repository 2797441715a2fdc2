use Rattle.cfi_text.proofs.TextLemmas.{both}
use Rattle.cfi_stacks.proofs.sample_members.put_sample_head.Goals as goal

pub returns : goal.returns
returns c =
    both _ _ _ _ _ c.put.ensures (both _ _ _ _ _ c.put_comm.ensures (both _ _ _ _ _ c.put_number_members.ensures (both _ _ _ _ _ c.escaped.ensures c.put-2.ensures)))
