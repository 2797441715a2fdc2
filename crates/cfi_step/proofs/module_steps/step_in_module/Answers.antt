use Rattle.std.proofs.Common.{arith}
use Rattle.cfi_step.proofs.module_steps.step_in_module.Goals as goal

pub step_in_kept-requires-clause-right : goal.step_in_kept-requires-clause-right
step_in_kept-requires-clause-right g c = λ k d inside. absurd (omega (arith, inside))
