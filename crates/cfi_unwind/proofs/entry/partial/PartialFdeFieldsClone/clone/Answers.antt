use Rattle.std.proofs.Common.{ap}
use Rattle.cfi_read_core.specs.CallFrameSections.{IsOf_prop}
use Rattle.cfi_unwind.proofs.entry.partial.PartialFdeFieldsClone.clone.Goals as goal

pub returns : goal.returns
returns g c = record { cases = ap (λ w. record c.args.self.now { of_section = w }) (IsOf_prop _ _ _ _) }
