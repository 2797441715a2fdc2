use Rattle.std.proofs.Common.{ap}
use Rattle.cfi_row_text.specs.ExpressionWords.{hexadecimal_bytes}
use Rattle.cfi_row_text.proofs.ExpressionWordsLemmas.{byte_first, fewer_bytes, no_bytes}
use Rattle.cfi_row_text.proofs.RowLineLemmas.{put_next}
use Rattle.cfi_text.proofs.TextLemmas.{put_all}
use Rattle.cfi_row_text.proofs.expression_words.put_hexadecimal.Goals as goal

pub loop-byte-smaller : goal.loop-byte-smaller
loop-byte-smaller g c = fewer_bytes c.in-Ok.byte _ _ (byte_first _ _ (g.met.R.Reader.sound c.loop-byte.left) c.in-Ok.byte c.in-Ok.ensures)

pub loop-byte-preserved : goal.loop-byte-preserved
loop-byte-preserved g c =
    let first = byte_first _ _ (g.met.R.Reader.sound c.loop-byte.left) c.in-Ok.byte c.in-Ok.ensures in
    put_next _ _ _ _ _ _ _ (ap hexadecimal_bytes first) c.loop-byte.invariant c.put_byte.ensures

pub returns : goal.returns
returns g c = put_all _ _ _ _ c.loop-byte.invariant (ap hexadecimal_bytes (no_bytes _ _ (g.met.R.Reader.sound c.loop-byte.left) _ c.in_default.ensures))
