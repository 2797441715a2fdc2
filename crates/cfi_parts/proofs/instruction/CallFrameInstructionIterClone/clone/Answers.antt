use Rattle.std.proofs.Common.{ap}
use Rattle.std.proofs.Math.Bridge.{le_prop}
use Rattle.cfi_parts.proofs.instruction.CallFrameInstructionIterClone.clone.Goals as goal

-- the fact has one proof, so it tells no two values apart
pub returns : goal.returns
returns g c = record { cases = ap (λ behind. record c.args.self.now { behind = behind }) (le_prop _ _) }
