use Rattle.std.proofs.Common.{ap}
use Rattle.cfi_unwind.specs.EntrySteps.{GoesThrough_prop}
use Rattle.cfi_unwind.proofs.entry.entries.CfiEntriesIterClone.clone.Goals as goal

pub returns : goal.returns
returns g c = record { cases = ap (λ w. record c.args.self.now { through = w }) (GoesThrough_prop _ _ _ _) }
