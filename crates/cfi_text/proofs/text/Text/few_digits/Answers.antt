use Rattle.std.proofs.Common.{arith, false}
use Rattle.std.proofs.lemmas.Fmt.{hex_one_digit}
use Rattle.cfi_text.proofs.DigitLemmas.{hex_four, hex_three, hex_two}
use Rattle.cfi_text.proofs.text.Text.few_digits.Goals as goal

pub returns-then-number-ge4096 : goal.returns-then-number-ge4096
returns-then-number-ge4096 c = rw (hex_four c.args.number c.if-number-ge4096.true (omega (arith, c.ranges.number.fits))) c.four_digits.ensures

pub returns-then-number-ge256 : goal.returns-then-number-ge256
returns-then-number-ge256 c = rw (hex_three c.args.number c.if-number-ge256.true (omega (arith, c.if-number-ge4096.false))) c.three_digits.ensures

pub returns-then-number-ge16 : goal.returns-then-number-ge16
returns-then-number-ge16 c = rw (hex_two c.args.number c.if-number-ge16.true (omega (arith, c.if-number-ge256.false))) c.two_digits.ensures

pub returns-else-number-ge16 : goal.returns-else-number-ge16
returns-else-number-ge16 c = rw (hex_one_digit false c.args.number (omega (arith, c.if-number-ge16.false)), ← c.digit.ensures) c.put.ensures
