use Rattle.cfi_state.proofs.table.rules.RegisterRuleIterIterator.next.Goals as goal

pub returns-clause-steps : goal.returns-clause-steps
returns-clause-steps g c = c.in_ok-first.ensures.cases.0
