use Rattle.cfi_row_text.proofs.ExpressionWordsLemmas.{byte_first, no_bytes}
use Rattle.cfi_text.proofs.TextLemmas.{nothing}
use Rattle.cfi_row_text.proofs.expression_words.put_left.Goals as goal

pub returns-in-Ok : goal.returns-in-Ok
returns-in-Ok g c =
    rw (byte_first _ _ (g.met.R.Reader.sound c.args.input.now) c.in-Ok.opcode c.in-Ok.ensures) c.put_opcode.ensures

pub returns-in_default : goal.returns-in_default
returns-in_default g c =
    rw (no_bytes _ _ (g.met.R.Reader.sound c.args.input.now) _ c.in_default.ensures) (nothing _)
