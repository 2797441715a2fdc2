use Rattle.std.proofs.Common.{length}
use Rattle.cfi_read_core.specs.ReaderCalls.{bytes_left}
use Rattle.cfi_row_text.specs.ExpressionWords.{hexadecimal_bytes}
use Rattle.cfi_text.proofs.TextLemmas.{IsPut}
use Rattle.cfi_row_text.proofs.expression_words.put_hexadecimal.Given as goal

abbrev pub invariant-loop-byte : goal.invariant-loop-byte
invariant-loop-byte g l =
    IsPut l.fn.text l.text
    (hexadecimal_bytes (bytes_left (g.R.Reader.position l.left))) (hexadecimal_bytes (bytes_left (g.R.Reader.position l.input)))

abbrev pub decreases-loop-byte : goal.decreases-loop-byte
decreases-loop-byte g l = length (bytes_left (g.R.Reader.position l.left))
