use Rattle.cfi_text.proofs.TextLemmas.{both}
use Rattle.cfi_core_stacks.proofs.thread_object.put_head.Goals as goal

pub returns : goal.returns
returns c =
    let tid = rw c.from.ensures at c.json_number.ensures in
    both _ _ _ _ _ c.put.ensures (both _ _ _ _ _ tid (both _ _ _ _ _ c.put_signal.ensures (both _ _ _ _ _ c.put_process.ensures c.put-2.ensures)))
