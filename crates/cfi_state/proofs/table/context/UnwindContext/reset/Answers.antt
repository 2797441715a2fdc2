use Rattle.std.proofs.Common.{[], None}
use Rattle.cfi_state.proofs.table.context.UnwindContext.reset.Goals as goal

pub returns : goal.returns
returns g c = λ i. record { row = c.reset.ensures i; remembered = []; initial_rules = None }
