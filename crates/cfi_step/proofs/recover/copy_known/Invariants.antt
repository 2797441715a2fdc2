use Rattle.std.proofs.Common.{◌≡◌, ◌<◌, ℕ, None, slice_index_or}
use Rattle.cfi_expression.specs.Frames.{known}
use Rattle.cfi_step.proofs.recover.copy_known.Given as goal

-- the registers before this one are written
abbrev pub invariant-loop-k : goal.invariant-loop-k
invariant-loop-k l = (k : ℕ) → k < l.k → slice_index_or l.caller k None ≡ known l.registers k
