use Rattle.std.proofs.Common.{arith}
use Rattle.cfi_step.proofs.process.unwind.Goals as goal

pub write_frames-requires-clause-can : goal.write_frames-requires-clause-can
write_frames-requires-clause-can g c = λ rows none keeps. λ m loaded among. λ k d inside. absurd (omega (arith, none, inside))
