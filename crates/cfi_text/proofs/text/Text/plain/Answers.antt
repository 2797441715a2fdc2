use Rattle.cfi_text.proofs.TextLemmas.{not_this, otherwise, same}
use Rattle.cfi_text.proofs.text.Text.plain.Goals as goal

pub returns-else-scalar-eq10 : goal.returns-else-scalar-eq10
returns-else-scalar-eq10 c =
    same _ _ _ _ (otherwise _ _ _ (not_this _ _ 10 c.scalar.ensures c.if-scalar-eq10.false)) c.drawn.ensures
