-- What the machine returns where it may run out of memory: then an instruction that would be
-- accepted may be refused with `OutOfMemory`, and is left out. Where no instruction runs out of
-- memory, these are the results of `FdeAnswers`.
--     NextAnswer      the next result of a table, and the table after it
--     RunsInitialInstructions      a CIE's initial instructions, run from a state
--     FindsRow, AnswersFde      the result for an address
use Rattle.std.specs.Prelude.{◌≡◌, ℕ, true, false, Option, Some, None, Result, Ok, Err}
use Rattle.cfi_read_core.specs.ReadFunctions.{Readings, with_first, no_values}
use Rattle.cfi_read_core.specs.declared.error.Error.{Error}
use Rattle.cfi_read_core.specs.declared.error.Error.TheVariants.{NoUnwindInfoForAddress}
use Rattle.cfi_read_core.specs.declared.instruction.CallFrameInstruction.{CallFrameInstruction}
use Rattle.cfi_state.specs.Row.{Row, row_contains}
use Rattle.cfi_state.specs.MachineSettings.{Setting, is_move}
use Rattle.cfi_state.specs.Machine.{State, fresh_state, step, end_of_cie}
use Rattle.cfi_state.specs.AllocatingOperations.{IsRefusal}
use Rattle.cfi_state.specs.Allocation.{MayAllocate}
use Rattle.cfi_state.specs.UnwindTableStates.{TableState, before_last_row, after_last_row}

module _ {T : Type 0} where
  abbrev pub current_row : State T → ℕ → Row T
  current_row state end_address =
      record { start_address = state.location; end_address = end_address; parts = state.parts }

  -- ---- the rows of an FDE

  pub data NextAnswer (allocates : MayAllocate T) (setting : Setting) :
      TableState (State T) T → Result (Option (Row T)) Error → TableState (State T) T
      → Type 0 where
    -- an accepted instruction that is not a move gives no result
    passes : (state next : State T) (instruction : CallFrameInstruction T)
        (rest : Readings (CallFrameInstruction T)) (answer : Result (Option (Row T)) Error)
        (table : TableState (State T) T)
        → is_move instruction ≡ false
        → step setting state instruction ≡ Ok next
        → NextAnswer allocates setting (before_last_row next rest) answer table
        → NextAnswer allocates setting (before_last_row state (with_first instruction rest)) answer
        table
    ends_row : (state next : State T) (instruction : CallFrameInstruction T)
        (rest : Readings (CallFrameInstruction T))
        → is_move instruction ≡ true
        → step setting state instruction ≡ Ok next
        → NextAnswer allocates setting (before_last_row state (with_first instruction rest))
        (Ok (Some (current_row state next.location))) (before_last_row next rest)
    refuses : (state : State T) (instruction : CallFrameInstruction T)
        (rest : Readings (CallFrameInstruction T)) (error : Error)
        → IsRefusal (allocates.at state instruction) (step setting state instruction) error
        → NextAnswer allocates setting (before_last_row state (with_first instruction rest))
        (Err error) (before_last_row state rest)
    -- after an instruction that cannot be read only the last row is to come
    cannot_read : (state : State T) (error : Error)
        → NextAnswer allocates setting (before_last_row state (no_values (Some error)))
        (Err error) (before_last_row state (no_values None))
    last_row : (state : State T)
        → NextAnswer allocates setting (before_last_row state (no_values None))
        (Ok (Some (current_row state setting.end_address))) (after_last_row state (no_values None))
    no_row : (state : State T) (left : Readings (CallFrameInstruction T))
        → NextAnswer allocates setting (after_last_row state left) (Ok None)
        (after_last_row state left)

  -- ---- the program of a CIE, whose moves end no rows

  pub data RunsInitialInstructions (allocates : MayAllocate T) (setting : Setting) :
      State T → Readings (CallFrameInstruction T) → Result (State T) Error → Type 0 where
    cie_passes : (state next : State T) (instruction : CallFrameInstruction T)
        (rest : Readings (CallFrameInstruction T)) (result : Result (State T) Error)
        → step setting state instruction ≡ Ok next
        → RunsInitialInstructions allocates setting next rest result
        → RunsInitialInstructions allocates setting state (with_first instruction rest) result
    cie_refuses : (state : State T) (instruction : CallFrameInstruction T)
        (rest : Readings (CallFrameInstruction T)) (error : Error)
        → IsRefusal (allocates.at state instruction) (step setting state instruction) error
        → RunsInitialInstructions allocates setting state (with_first instruction rest) (Err error)
    cie_cannot_read : (state : State T) (error : Error)
        → RunsInitialInstructions allocates setting state (no_values (Some error)) (Err error)
    cie_ends : (state next : State T)
        → end_of_cie setting state ≡ Ok next
        → RunsInitialInstructions allocates setting state (no_values None) (Ok next)
    cie_end_refused : (state : State T) (error : Error)
        → IsRefusal (allocates.at_end state) (end_of_cie setting state) error
        → RunsInitialInstructions allocates setting state (no_values None) (Err error)

  -- ---- the result for an address

  -- the first error or row with the address, by the results that come next
  pub data FindsRow {P : Type 0} (Next : P → Result (Option (Row T)) Error → P → Type 0)
      (address : ℕ) : P → Result (Row T) Error → Type 0 where
    contains_it : (table after : P) (row : Row T)
        → Next table (Ok (Some row)) after
        → row_contains address row ≡ true
        → FindsRow Next address table (Ok row)
    goes_on : (table after : P) (row : Row T) (result : Result (Row T) Error)
        → Next table (Ok (Some row)) after
        → row_contains address row ≡ false
        → FindsRow Next address after result
        → FindsRow Next address table result
    is_refused : (table after : P) (error : Error)
        → Next table (Err error) after
        → FindsRow Next address table (Err error)
    comes_to_end : (table after : P)
        → Next table (Ok None) after
        → FindsRow Next address table (Err NoUnwindInfoForAddress)

  -- of an FDE, by the instructions of its CIE and its own
  pub data AnswersFde (allocates : MayAllocate T) (setting : Setting)
      (cie fde : Readings (CallFrameInstruction T)) (address : ℕ) :
      Result (Row T) Error → Type 0 where
    by_cie : (error : Error)
        → RunsInitialInstructions allocates setting fresh_state cie (Err error)
        → AnswersFde allocates setting cie fde address (Err error)
    by_rows : (state : State T) (result : Result (Row T) Error)
        → RunsInitialInstructions allocates setting fresh_state cie (Ok state)
        → FindsRow (NextAnswer allocates setting) address (before_last_row state fde) result
        → AnswersFde allocates setting cie fde address result
