use Rattle.cfi_parts.proofs.Visits.{next_expressions, next_fewer, next_met}
use Rattle.cfi_parts.proofs.instruction.CallFrameInstructionIter.next.Goals as goal

pub returns-clause-met : goal.returns-clause-met
returns-clause-met g c = next_met _ _ _ _ _ c.visit_next.result c.visit_next.ensures.visits

pub returns-clause-fewer : goal.returns-clause-fewer
returns-clause-fewer g c = next_fewer _ _ _ _ _ c.visit_next.result c.visit_next.ensures.visits

pub returns-clause-expressions : goal.returns-clause-expressions
returns-clause-expressions g c = next_expressions _ _ _ _ _ c.visit_next.result c.visit_next.ensures.visits
