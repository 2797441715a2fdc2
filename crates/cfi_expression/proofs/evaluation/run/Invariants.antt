use Rattle.std.proofs.Common.{◌≡◌}
use Rattle.cfi_expression.specs.Frames.{frame_view}
use Rattle.cfi_expression.specs.Evaluation.{run}
use Rattle.cfi_expression.proofs.evaluation.run.Given as goal

-- what the operations that are left give from here is what all give from the start
abbrev pub invariant-loop-input : goal.invariant-loop-input
invariant-loop-input g l =
    let run_from = run (frame_view g.M.Memory.number_at l.frame) (g.R.Reader.position l.expression) in
    ((g.R.Reader.position l.input).source ≡ (g.R.Reader.position l.expression).source)
    × (run_from l.left (g.R.Reader.position l.input).place l.stack ≡ run_from l.fn.max_iterations (g.R.Reader.position l.expression).place l.fn.stack)

abbrev pub decreases-loop-input : goal.decreases-loop-input
decreases-loop-input g l = l.left
