use Rattle.std.proofs.Common.{refl}
use Rattle.cfi_stacks.proofs.visitor.ended.Goals as goal

pub returns-in-None : goal.returns-in-None
returns-in-None g c = rw c.in-None.is refl

pub returns-in-Some : goal.returns-in-Some
returns-in-Some g c = rw c.in-Some.is refl
