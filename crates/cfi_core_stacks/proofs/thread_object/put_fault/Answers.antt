use Rattle.cfi_text.proofs.TextLemmas.{both}
use Rattle.cfi_core_stacks.proofs.thread_object.put_fault.Goals as goal

pub returns-in-Some : goal.returns-in-Some
returns-in-Some c =
    let code = rw c.from.ensures at c.json_number.ensures in
    rw c.in-Some.is (both _ _ _ _ _ c.put.ensures (both _ _ _ _ _ code (both _ _ _ _ _ c.put-in-Some.ensures (both _ _ _ _ _ c.address.ensures c.put-in-Some-2.ensures))))
