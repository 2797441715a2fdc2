use Rattle.cfi_compiled.proofs.slots.Slots.find.Goals as goal

pub returns-then-is : goal.returns-then-is
returns-then-is g c = c.is.ensures c.if-is.true
