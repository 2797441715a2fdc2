use Rattle.std.proofs.Common.{◌≡◌}
use Rattle.cfi_parts.specs.InstructionIterators.{instruction_reader}
use Rattle.cfi_parts.specs.InstructionReaders.{instructions_left}
use Rattle.cfi_state.specs.ContextEffects.{setting_of}
use Rattle.cfi_unwind.specs.UnwindTableViews.{table_state}
use Rattle.cfi_unwind.proofs.TableSteps.{answers_left, LeadsToAnswer}
use Rattle.cfi_unwind.proofs.fde_rows.row_of_programs.Given as goal

abbrev pub invariant-loop-row : goal.invariant-loop-row
invariant-loop-row g l =
    LeadsToAnswer (setting_of l.fn.parameters g.S.Rules.ArrayLike.limit g.S-Stack-ArrayLike.limit) g.S.Rules.CopyList.copies_free
    (instructions_left (instruction_reader g.R.Reader.position l.fn.initial)) (instructions_left (instruction_reader g.R.Reader.position l.fn.instructions)) l.fn.address
    (table_state g.R.Reader.position g.R.Offset.ReaderOffset.number l.table)
    × (l.table.parameters ≡ l.fn.parameters)

abbrev pub decreases-loop-row : goal.decreases-loop-row
decreases-loop-row g l = answers_left (table_state g.R.Reader.position g.R.Offset.ReaderOffset.number l.table)
