use Rattle.cfi_text.proofs.TextLemmas.{both}
use Rattle.cfi_core_stacks.proofs.thread_object.put_process.Goals as goal

pub returns-in-Some : goal.returns-in-Some
returns-in-Some c = rw c.in-Some.is (both _ _ _ _ _ c.put.ensures (both _ _ _ _ _ c.escaped.ensures c.put-in-Some.ensures))
