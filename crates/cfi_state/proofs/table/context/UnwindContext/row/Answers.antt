use Rattle.std.proofs.Common.{ap}
use Rattle.cfi_state.proofs.table.context.UnwindContext.row.Goals as goal

pub returns : goal.returns
returns g c = ap (λ x. x.row) c.self.view_is
