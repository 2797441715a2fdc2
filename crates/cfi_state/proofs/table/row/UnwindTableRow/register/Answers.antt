use Rattle.std.proofs.Common.{ap, ◌∙◌}
use Rattle.std.specs.FinMap.{get}
use Rattle.cfi_state.proofs.table.row.UnwindTableRow.register.Goals as goal

pub returns : goal.returns
returns g c = c.get.ensures ∙ ap (λ x. get x.parts.rules c.args.register.0) c.self.view_is
