use Rattle.std.proofs.Common.{◌≡◌, ◌≤◌, length}
use Rattle.cfi_state.specs.ContextEffects.{setting_of}
use Rattle.cfi_state.specs.UnwindTableStates.{run_answers_to_come}
use Rattle.cfi_unwind.specs.UnwindTableViews.{table_state}
use Rattle.cfi_compiled.proofs.RowSteps.{Walked}
use Rattle.cfi_compiled.proofs.walk.walk_rows.Given as goal

abbrev pub invariant-loop-answer : goal.invariant-loop-answer
invariant-loop-answer g l =
    let first = setting_of l.initial.rows.parameters g.C.Rules.ArrayLike.limit g.C-Stack-ArrayLike.limit in
    record {
      setting : setting_of l.rows.parameters g.C.Rules.ArrayLike.limit g.C-Stack-ArrayLike.limit ≡ first;
      free : g.K.StepSink.free l.sink ≤ l.from;
      walked : Walked l.facts
          (run_answers_to_come first (table_state g.R.Reader.position (λ n. n) l.initial.rows))
          (run_answers_to_come first (table_state g.R.Reader.position (λ n. n) l.rows))
          l.first l.from l.end first.end_address (g.K.StepSink.answer l.fn.sink) (g.K.StepSink.answer l.sink);
    }

abbrev pub decreases-loop-answer : goal.decreases-loop-answer
decreases-loop-answer g l =
    length (run_answers_to_come (setting_of l.initial.rows.parameters g.C.Rules.ArrayLike.limit g.C-Stack-ArrayLike.limit) (table_state g.R.Reader.position (λ n. n) l.rows))
