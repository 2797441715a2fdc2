use Rattle.std.proofs.Common.{[], None, arith}
use Rattle.cfi_state.proofs.table.context.UnwindContext.new_in.Goals as goal

pub returns-clause-ok : goal.returns-clause-ok
returns-clause-ok g c = λ i. record { row = c.in_ok-new_in.ensures.ok i; remembered = []; initial_rules = None }

pub invariant_of-result : goal.invariant_of-result
invariant_of-result g c = (omega arith, g.met.S.UnwindContextStorage.has_room)
