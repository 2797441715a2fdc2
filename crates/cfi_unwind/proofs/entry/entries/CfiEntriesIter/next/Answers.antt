use Rattle.cfi_unwind.proofs.entry.entries.CfiEntriesIter.next.Goals as goal

pub returns-clause-met : goal.returns-clause-met
returns-clause-met g c = c.next_entry-answer.ensures.met
