use Rattle.std.proofs.Common.{ap, ◌∙◌}
use Rattle.cfi_state.proofs.table.row.UnwindTableRow.try_clone.Goals as goal

pub returns-clause-ok : goal.returns-clause-ok
returns-clause-ok g c = λ i. record {
  start_address = (c.self.view_is i).start_address;
  end_address = (c.self.view_is i).end_address;
  parts = record { cfa = (c.self.view_is i).parts.cfa; rules = (c.in_ok-copy.ensures.ok ∙ ap (λ x. x.parts.rules) c.self.view_is) i; args_size = (c.self.view_is i).parts.args_size };
}
