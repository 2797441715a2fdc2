use Rattle.cfi_text.proofs.TextLemmas.{both}
use Rattle.cfi_stacks.proofs.sample_members.put_number_members.Goals as goal

pub returns : goal.returns
returns c =
    let pid = rw c.from.ensures at c.json_number.ensures in
    let tid = rw c.from-2.ensures at c.json_number-2.ensures in
    both _ _ _ _ _ c.put.ensures (both _ _ _ _ _ pid (both _ _ _ _ _ c.put-2.ensures (both _ _ _ _ _ tid (both _ _ _ _ _ c.put_cpu_member.ensures c.put_time_members.ensures))))
