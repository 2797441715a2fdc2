use Rattle.cfi_core_stacks.proofs.core_text.put_stack.Goals as goal

pub returns-in-Text : goal.returns-in-Text
returns-in-Text c = rw c.in-Text.is tt

pub returns-in-Json : goal.returns-in-Json
returns-in-Json c = rw c.in-Json.is c.put_thread_object.ensures
