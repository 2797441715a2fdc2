use Rattle.cfi_text.proofs.TextLemmas.{both}
use Rattle.cfi_stacks.proofs.sample_members.put_time_members.Goals as goal

pub returns : goal.returns
returns c =
    both _ _ _ _ _ c.put.ensures (both _ _ _ _ _ c.put_nanoseconds.ensures (both _ _ _ _ _ c.put-2.ensures (both _ _ _ _ _ c.json_number.ensures c.put-3.ensures)))
