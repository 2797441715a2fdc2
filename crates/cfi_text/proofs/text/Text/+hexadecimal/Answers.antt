use Rattle.std.proofs.Common.{[], arith}
use Rattle.cfi_text.proofs.DigitLemmas.{hex_wide}
use Rattle.cfi_text.proofs.TextLemmas.{both, same}
use Rattle.cfi_text.proofs.text.Text.+hexadecimal.Goals as goal

pub returns : goal.returns
returns t c = same _ _ _ _ (hex_wide [] c.args.number (omega (arith, c.if-number-lt65536.false)) c.ranges.number.fits) (both _ _ _ _ _ c.hexadecimal.ensures c.four_digits.ensures)
