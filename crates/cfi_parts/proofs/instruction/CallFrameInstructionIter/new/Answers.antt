use Rattle.std.proofs.Common.{refl}
use Rattle.cfi_parts.proofs.instruction.CallFrameInstructionIter.new.Goals as goal

pub returns : goal.returns
returns g c = refl
