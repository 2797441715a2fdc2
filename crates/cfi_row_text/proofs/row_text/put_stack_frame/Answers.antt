use Rattle.std.proofs.Common.{◌≡◌, ◌%◌, arith}
use Rattle.std.proofs.lemmas.Fmt.{decimal_digit}
use Rattle.cfi_text.proofs.DigitLemmas.{decimal_two}
use Rattle.cfi_row_text.proofs.row_text.put_stack_frame.Goals as goal

pub returns-then-offset-lt10 : goal.returns-then-offset-lt10
returns-then-offset-lt10 c =
    let ones : c.args.offset % 10 ≡ c.args.offset = omega (arith, c.if-offset-lt10.true) in
    rw (decimal_digit c.args.offset c.if-offset-lt10.true, ← ones) c.put_with_digit.ensures

pub returns-else-offset-lt10 : goal.returns-else-offset-lt10
returns-else-offset-lt10 c = rw (decimal_two c.args.offset (omega (arith, c.if-offset-lt10.false)) c.requires) c.put_with_digits.ensures
