use Rattle.std.proofs.Common.{◌+◌, ap}
use Rattle.cfi_row_text.proofs.register_rules.number_after.Goals as goal

pub returns-clause-number : goal.returns-clause-number
returns-clause-number c = ap (λ n. n + 1) c.from.ensures
