use Rattle.std.proofs.Common.{arith}
use Rattle.cfi_compiled.proofs.walk.take_gap.Goals as goal

pub returns-else-from-to-clause-within : goal.returns-else-from-to-clause-within
returns-else-from-to-clause-within g c = λ a low high. absurd (omega (arith, low, high, c.if-from-to.false))
