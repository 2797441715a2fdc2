use Rattle.cfi_stacks.proofs.run.list_profile.Goals as goal

pub returns-in-Frames-clause-printed : goal.returns-in-Frames-clause-printed
returns-in-Frames-clause-printed g c = rw c.in-Frames.is c.print_stacks.ensures.printed

pub returns-in-Json-clause-printed : goal.returns-in-Json-clause-printed
returns-in-Json-clause-printed g c = rw c.in-Json.is c.print_stacks-in-Json.ensures.printed

pub returns-in-Folded-clause-printed : goal.returns-in-Folded-clause-printed
returns-in-Folded-clause-printed g c = rw c.in-Folded.is c.print_folded.ensures.printed
