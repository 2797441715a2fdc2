use Rattle.std.proofs.Common.{◌≡◌, length, None}
use Rattle.cfi_parts.specs.InstructionIterators.{instruction_reader}
use Rattle.cfi_parts.specs.InstructionReaders.{instructions_left}
use Rattle.cfi_state.specs.ContextEffects.{setting_of}
use Rattle.cfi_state.specs.Machine.{fresh_state}
use Rattle.cfi_state.specs.Allocation.{may_allocate}
use Rattle.cfi_state.proofs.RunSteps.{LeadsToCie}
use Rattle.cfi_unwind.specs.UnwindTableCalls.{state_in_numbers}
use Rattle.cfi_unwind.proofs.unwind_table.run_initial.Given as goal

abbrev pub invariant-loop-moved : goal.invariant-loop-moved
invariant-loop-moved g l =
    let s = setting_of l.parameters g.S.Rules.ArrayLike.limit g.S-Stack-ArrayLike.limit in
    LeadsToCie (may_allocate s g.S.Rules.CopyList.copies_free) s
    fresh_state (instructions_left (instruction_reader g.R.Reader.position l.fn.instructions))
    (state_in_numbers g.R.Offset.ReaderOffset.number l.location l.context) (instructions_left (instruction_reader g.R.Reader.position l.rest))
    × (l.context.initial_rules ≡ None)

abbrev pub decreases-loop-moved : goal.decreases-loop-moved
decreases-loop-moved g l = length (instructions_left (instruction_reader g.R.Reader.position l.rest)).values
