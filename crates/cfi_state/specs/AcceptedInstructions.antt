-- The next result of an FDE without a machine: the program so far is followed by the instructions
-- that are accepted on the way. Left out are those that the program refuses and, where they may
-- allocate, those that run out of memory.
--     NextAcceptedAnswer      the next result of a table, and the table after it
--     AnswersForProgram      the same for any program that the machine's state is after
--     AcceptsInitialInstructions      the program of a CIE
--     AnswersByAccepted      the result for an address
use Rattle.std.specs.Prelude.{◌≡◌, ℕ, Bool, true, false, List, [], ◌∷◌, ◌++◌, Option, Some, None}
use Rattle.std.specs.Prelude.{Result, Ok, Err}
use Rattle.cfi_read_core.specs.ReadFunctions.{Readings, with_first, no_values}
use Rattle.cfi_read_core.specs.declared.error.Error.{Error}
use Rattle.cfi_read_core.specs.declared.instruction.CallFrameInstruction.{CallFrameInstruction}
use Rattle.cfi_state.specs.AllocatingOperations.{IsDueOrMemory}
use Rattle.cfi_state.specs.Row.{Row}
use Rattle.cfi_state.specs.MachineSettings.{Setting, is_move}
use Rattle.cfi_state.specs.Machine.{State}
use Rattle.cfi_state.specs.Program.{Program, in_cie, in_fde, followed_by, location_of, refusal}
use Rattle.cfi_state.specs.Program.{refusal_at_end}
use Rattle.cfi_state.specs.FdeAnswers.{row_until, program_state, IsStateAfter}
use Rattle.cfi_state.specs.UnwindTableStates.{TableState, before_last_row, after_last_row}
use Rattle.cfi_state.specs.MachineRuns.{FindsRow}
use Rattle.cfi_state.specs.Allocation.{MayAllocate}

-- the error of an instruction that is left out
abbrev pub IsLeftOut : Bool → Option Error → Error → Type 0
IsLeftOut allocates due error = IsDueOrMemory allocates (due ≡ Some error) (due ≡ None) error

module _ {T : Type 0} where
  pub data NextAcceptedAnswer (allocates : MayAllocate T) (setting : Setting) :
      TableState (Program T) T → Result (Option (Row T)) Error → TableState (Program T) T
      → Type 0 where
    keeps : (program : Program T) (instruction : CallFrameInstruction T)
        (rest : Readings (CallFrameInstruction T)) (answer : Result (Option (Row T)) Error)
        (table : TableState (Program T) T)
        → is_move instruction ≡ false
        → refusal setting program instruction ≡ None
        → NextAcceptedAnswer allocates setting
        (before_last_row (followed_by program instruction) rest) answer table
        → NextAcceptedAnswer allocates setting
        (before_last_row program (with_first instruction rest)) answer table
    keeps_move : (program : Program T) (instruction : CallFrameInstruction T)
        (rest : Readings (CallFrameInstruction T))
        → is_move instruction ≡ true
        → refusal setting program instruction ≡ None
        → NextAcceptedAnswer allocates setting
        (before_last_row program (with_first instruction rest))
        (Ok (Some (row_until setting program
        (location_of setting (followed_by program instruction)))))
        (before_last_row (followed_by program instruction) rest)
    leaves_out : (program : Program T) (instruction : CallFrameInstruction T)
        (rest : Readings (CallFrameInstruction T)) (error : Error)
        → IsLeftOut (allocates.at (program_state setting program) instruction)
        (refusal setting program instruction) error
        → NextAcceptedAnswer allocates setting
        (before_last_row program (with_first instruction rest)) (Err error)
        (before_last_row program rest)
    finds_unreadable : (program : Program T) (error : Error)
        → NextAcceptedAnswer allocates setting (before_last_row program (no_values (Some error)))
        (Err error) (before_last_row program (no_values None))
    gives_last_row : (program : Program T)
        → NextAcceptedAnswer allocates setting (before_last_row program (no_values None))
        (Ok (Some (row_until setting program setting.end_address)))
        (after_last_row program (no_values None))
    gives_no_row : (program : Program T) (left : Readings (CallFrameInstruction T))
        → NextAcceptedAnswer allocates setting (after_last_row program left) (Ok None)
        (after_last_row program left)

  -- the same table with a program in place of the machine's state
  abbrev pub at_program : TableState (State T) T → Program T → TableState (Program T) T
  at_program table program =
      record { so_far = program; left = table.left; has_ended = table.has_ended }

  -- whatever program the machine's state is after, it then is after that program with the accepted
  -- instructions
  abbrev pub AnswersForProgram :
      MayAllocate T → Setting → TableState (State T) T → Result (Option (Row T)) Error
      → TableState (State T) T → Type 0
  AnswersForProgram allocates setting table answer next =
      (program : Program T) → IsStateAfter setting table.so_far program
      → (after : Program T)
      × NextAcceptedAnswer allocates setting (at_program table program) answer
      (at_program next after)
      × IsStateAfter setting next.so_far after

  -- `cie` has the CIE's instructions so far
  pub data AcceptsInitialInstructions (allocates : MayAllocate T) (setting : Setting) :
      List (CallFrameInstruction T) → Readings (CallFrameInstruction T)
      → Result (List (CallFrameInstruction T)) Error → Type 0 where
    cie_keeps : (cie : List (CallFrameInstruction T)) (instruction : CallFrameInstruction T)
        (rest : Readings (CallFrameInstruction T))
        (result : Result (List (CallFrameInstruction T)) Error)
        → refusal setting (in_cie cie) instruction ≡ None
        → AcceptsInitialInstructions allocates setting (cie ++ instruction ∷ []) rest result
        → AcceptsInitialInstructions allocates setting cie (with_first instruction rest) result
    cie_leaves_out : (cie : List (CallFrameInstruction T)) (instruction : CallFrameInstruction T)
        (rest : Readings (CallFrameInstruction T)) (error : Error)
        → IsLeftOut (allocates.at (program_state setting (in_cie cie)) instruction)
        (refusal setting (in_cie cie) instruction) error
        → AcceptsInitialInstructions allocates setting cie (with_first instruction rest) (Err error)
    cie_finds_unreadable : (cie : List (CallFrameInstruction T)) (error : Error)
        → AcceptsInitialInstructions allocates setting cie (no_values (Some error)) (Err error)
    cie_is_kept : (cie : List (CallFrameInstruction T))
        → refusal_at_end setting cie ≡ None
        → AcceptsInitialInstructions allocates setting cie (no_values None) (Ok cie)
    cie_end_left_out : (cie : List (CallFrameInstruction T)) (error : Error)
        → IsLeftOut (allocates.at_end (program_state setting (in_cie cie)))
        (refusal_at_end setting cie) error
        → AcceptsInitialInstructions allocates setting cie (no_values None) (Err error)

  pub data AnswersByAccepted (allocates : MayAllocate T) (setting : Setting)
      (cie fde : Readings (CallFrameInstruction T)) (address : ℕ) :
      Result (Row T) Error → Type 0 where
    refused_by_cie : (error : Error)
        → AcceptsInitialInstructions allocates setting [] cie (Err error)
        → AnswersByAccepted allocates setting cie fde address (Err error)
    found_in_rows : (accepted : List (CallFrameInstruction T)) (result : Result (Row T) Error)
        → AcceptsInitialInstructions allocates setting [] cie (Ok accepted)
        → FindsRow (NextAcceptedAnswer allocates setting) address
        (before_last_row (in_fde accepted []) fde) result
        → AnswersByAccepted allocates setting cie fde address result
