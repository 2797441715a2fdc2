use Rattle.std.proofs.Common.{◌∙◌, ap}
use Rattle.cfi_elf.specs.Fields.{part}
use Rattle.cfi_elf.proofs.EntrySteps.{entry_is, entry_past}
use Rattle.cfi_elf.proofs.bytes.entry.Goals as goal

pub returns-in_default-clause-value : goal.returns-in_default-clause-value
returns-in_default-clause-value c = entry_past c.args.size c.args.table.now c.args.index c.requires c.in_default.ensures

pub returns-clause-value : goal.returns-clause-value
returns-clause-value c =
    c.part.ensures ∙ (ap (λ n. part c.args.table.now n c.args.size) c.in-Some.ensures ∙ entry_is c.args.size c.args.table.now c.args.index c.requires)
