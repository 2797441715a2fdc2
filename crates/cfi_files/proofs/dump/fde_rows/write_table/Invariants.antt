use Rattle.std.proofs.Common.{◌≡◌, ◌++◌, ℕ, List, Option, Some}
use Rattle.cfi_state.specs.ContextEffects.{setting_of}
use Rattle.cfi_state.specs.FdeAnswers.{IsStateAfter}
use Rattle.cfi_state.specs.AcceptedInstructions.{at_program}
use Rattle.cfi_state.specs.Program.{Program}
use Rattle.cfi_state.specs.UnwindTableStates.{answers_to_come}
use Rattle.cfi_unwind.specs.UnwindTableViews.{table_state}
use Rattle.cfi_row_text.specs.Wordings.{worded}
use Rattle.cfi_files.specs.FdeRows.{answer_lines}
use Rattle.cfi_files.specs.Sending.{IsSent}
use Rattle.cfi_files.proofs.FdeRowsSent.{StandsAt, answers_left}
use Rattle.cfi_files.proofs.dump.fde_rows.write_table.Given as goal

-- from each program after which the table stood, behind whatever was sent before
abbrev pub invariant-loop-answer : goal.invariant-loop-answer
invariant-loop-answer g l =
    let setting = setting_of l.initial.table.parameters (Some 192) (Some 4) in
    let begins = table_state g.R.Reader.position (λ n. n) l.initial.table in
    let from = g.S._UnwindSectionPrivate.view l.section in
    let wording = worded l.style from.address_size from.position in
    (setting_of l.table.parameters (Some 192) (Some 4) ≡ setting)
    × ((program : Program ℕ) → IsStateAfter setting begins.so_far program → (first : Option (List ℕ)) → (sent : List ℕ) → IsSent first (g.W.Write.contents l.initial.output) l.initial.text sent
    → StandsAt wording setting (table_state g.R.Reader.position (λ n. n) l.table) first (g.W.Write.contents l.output) l.text (sent ++ answer_lines wording (answers_to_come setting (at_program begins program))))

abbrev pub decreases-loop-answer : goal.decreases-loop-answer
decreases-loop-answer g l = answers_left (table_state g.R.Reader.position (λ n. n) l.table)
