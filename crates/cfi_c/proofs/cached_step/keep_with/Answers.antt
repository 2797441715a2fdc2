use Rattle.cfi_c.proofs.cached_step.keep_with.Goals as goal

pub returns-in-None-clause-kept : goal.returns-in-None-clause-kept
returns-in-None-clause-kept c = λ other another alike right. right
