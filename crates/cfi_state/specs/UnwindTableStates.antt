-- Where the table of an FDE's rows is, and what is still to come of it.
--     TableState      the state, what is left to read, and whether the last row was returned
--     answers_to_come, run_answers_to_come      the results still to come, without the machine and
--         by it
--     rows_to_come      the rows among them
--     IsNext      a result is the first of those to come, and the others remain
use Rattle.std.specs.Prelude.{◌≡◌, Bool, true, false, if◌then◌else◌, List, [], ◌∷◌, Option, Some}
use Rattle.std.specs.Prelude.{None, Result, Ok, Err}
use Rattle.cfi_read_core.specs.ReadFunctions.{Readings}
use Rattle.cfi_read_core.specs.declared.error.Error.{Error}
use Rattle.cfi_read_core.specs.declared.instruction.CallFrameInstruction.{CallFrameInstruction}
use Rattle.cfi_state.specs.Row.{Row}
use Rattle.cfi_state.specs.MachineSettings.{Setting}
use Rattle.cfi_state.specs.Machine.{State}
use Rattle.cfi_state.specs.Program.{Program}
use Rattle.cfi_state.specs.FdeAnswers.{answers, run_answers, rows_of}

-- `B` is the machine's state, or the program so far
pub record TableState (B T : Type 0) : Type 0 where
  pub so_far : B
  pub left : Readings (CallFrameInstruction T)
  pub has_ended : Bool

module _ {T : Type 0} where
  abbrev pub before_last_row : {B : Type 0} → B → Readings (CallFrameInstruction T) → TableState B T
  before_last_row so_far left = record { so_far = so_far; left = left; has_ended = false }

  abbrev pub after_last_row : {B : Type 0} → B → Readings (CallFrameInstruction T) → TableState B T
  after_last_row so_far left = record { so_far = so_far; left = left; has_ended = true }

  abbrev pub run_answers_to_come : Setting → TableState (State T) T → List (Result (Row T) Error)
  run_answers_to_come setting table =
      if table.has_ended then [] else run_answers setting table.so_far table.left

  abbrev pub rows_to_come : Setting → TableState (State T) T → List (Row T)
  rows_to_come setting table = rows_of (run_answers_to_come setting table)

  abbrev pub answers_to_come : Setting → TableState (Program T) T → List (Result (Row T) Error)
  answers_to_come setting table =
      if table.has_ended then [] else answers setting table.so_far table.left

  -- `None` where nothing is to come
  abbrev pub IsNext :
      List (Result (Row T) Error) → Result (Option (Row T)) Error → List (Result (Row T) Error)
      → Type 0
  IsNext before (Ok None) after = (before ≡ []) × (after ≡ [])
  IsNext before (Ok (Some row)) after = before ≡ Ok row ∷ after
  IsNext before (Err error) after = before ≡ Err error ∷ after
