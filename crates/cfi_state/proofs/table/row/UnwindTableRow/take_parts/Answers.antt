use Rattle.std.proofs.Common.{ap, ◌∙◌}
use Rattle.cfi_state.proofs.table.row.UnwindTableRow.take_parts.Goals as goal

pub returns : goal.returns
returns g c = λ i. record {
  start_address = (c.self.view_is i).start_address;
  end_address = (c.self.view_is i).end_address;
  parts = record { cfa = (c.other.view_is i).parts.cfa; rules = (c.take_from.ensures ∙ ap (λ x. x.parts.rules) c.other.view_is) i; args_size = (c.other.view_is i).parts.args_size };
}
