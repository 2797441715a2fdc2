use Rattle.cfi_read_core.specs.AddressSizes.{size_in_bytes, has_address_size}
use Rattle.cfi_expression.proofs.Shifts.{shifted_out_low}
use Rattle.cfi_expression.proofs.arithmetic.shifted_left.Goals as goal

pub returns-else-places-lt64 : goal.returns-else-places-lt64
returns-else-places-lt64 c = shifted_out_low (size_in_bytes c.args.size) _ _ (has_address_size c.args.size) c.if-places-lt64.false
