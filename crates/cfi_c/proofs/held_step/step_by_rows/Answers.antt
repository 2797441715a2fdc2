use Rattle.cfi_c.proofs.held_step.step_by_rows.Goals as goal

pub returns-in-Some-clause-stepped : goal.returns-in-Some-clause-stepped
returns-in-Some-clause-stepped c = λ made. (c.in-Some.row.now, c.in-Some.ensures.0, c.in-Some.ensures.1, c.step_in_place.ensures)
