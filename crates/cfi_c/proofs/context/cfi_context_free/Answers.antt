use Rattle.cfi_c.proofs.context.cfi_context_free.Goals as goal

pub returns : goal.returns
returns c = c.of.ensures
