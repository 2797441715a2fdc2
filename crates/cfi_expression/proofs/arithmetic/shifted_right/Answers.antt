use Rattle.cfi_expression.proofs.Shifts.{shifted_out_right}
use Rattle.cfi_expression.proofs.arithmetic.shifted_right.Goals as goal

pub returns-else-places-lt64 : goal.returns-else-places-lt64
returns-else-places-lt64 c = shifted_out_right 64 _ _ c.ranges.entry.fits c.if-places-lt64.false
