use Rattle.std.proofs.Common.{length}
use Rattle.cfi_parts.specs.InstructionIterators.{instruction_reader}
use Rattle.cfi_parts.specs.InstructionReaders.{instructions_left}
use Rattle.cfi_state.specs.ContextEffects.{setting_of}
use Rattle.cfi_state.specs.UnwindTableStates.{before_last_row}
use Rattle.cfi_state.specs.Allocation.{may_allocate}
use Rattle.cfi_state.proofs.RunSteps.{LeadsTo}
use Rattle.cfi_unwind.specs.UnwindTableCalls.{state_in_numbers}
use Rattle.cfi_unwind.proofs.unwind_table.run_to_move.Given as goal

abbrev pub invariant-loop-moved : goal.invariant-loop-moved
invariant-loop-moved g l =
    let s = setting_of l.parameters g.S.Rules.ArrayLike.limit g.S-Stack-ArrayLike.limit in
    LeadsTo (may_allocate s g.S.Rules.CopyList.copies_free) s
    (before_last_row (state_in_numbers g.R.Offset.ReaderOffset.number l.location l.fn.context) (instructions_left (instruction_reader g.R.Reader.position l.fn.instructions)))
    (before_last_row (state_in_numbers g.R.Offset.ReaderOffset.number l.location l.context) (instructions_left (instruction_reader g.R.Reader.position l.instructions)))

abbrev pub decreases-loop-moved : goal.decreases-loop-moved
decreases-loop-moved g l = length (instructions_left (instruction_reader g.R.Reader.position l.instructions)).values
