use Rattle.cfi_c.proofs.cached_step.step_after_keeping.Goals as goal

pub returns-then-is_refused-clause-kept : goal.returns-then-is_refused-clause-kept
returns-then-is_refused-clause-kept c = λ other another alike right. right

pub returns-in-Some-clause-stepped : goal.returns-in-Some-clause-stepped
returns-in-Some-clause-stepped c = λ made. (c.in-Some.row.now, c.in-Some.ensures.0, c.in-Some.ensures.1, c.step_by_packed.ensures)
