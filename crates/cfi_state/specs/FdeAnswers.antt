-- The rows of an FDE (DWARF 5, section 6.4.1), with the errors among them in their place: what the
-- accepted instructions leave before each move that ends a row, and the same by the machine.
--     answers      the results for the FDE's instructions that are left to read, after a program
--     cie_refusal      why the CIE's initial instructions are refused
--     run_answers, run_cie      the same by the machine
--     program_state      the machine's state after a program
--     AreConsecutive, answer_at      what the rows cover, and the result for an address
use Rattle.std.specs.Prelude.{◌≡◌, ℕ, Bool, if◌then◌else◌, List, [], ◌∷◌, ◌++◌, map, filter_map}
use Rattle.std.specs.Prelude.{◌≤◌, Option, Some, None, Result, Ok, Err}
use Rattle.std.specs.Option.{option_or}
use Rattle.std.specs.Result.{result_ok}
use Rattle.cfi_read_core.specs.ReadFunctions.{Readings}
use Rattle.cfi_read_core.specs.declared.error.Error.{Error}
use Rattle.cfi_read_core.specs.declared.error.Error.TheVariants.{NoUnwindInfoForAddress}
use Rattle.cfi_read_core.specs.declared.instruction.CallFrameInstruction.{CallFrameInstruction}
use Rattle.cfi_state.specs.Cases.{on_option, on_result}
use Rattle.cfi_state.specs.Row.{Row, row_contains}
use Rattle.cfi_state.specs.MachineSettings.{Setting, is_move}
use Rattle.cfi_state.specs.Machine.{Rules, Parts, State, fresh_state, step, end_of_cie}
use Rattle.cfi_state.specs.RememberedStates.{survivors, before_open}
use Rattle.cfi_state.specs.LastWriters.{final_rules, final_parts}
use Rattle.cfi_state.specs.Program.{Program, in_cie, in_fde, instructions, followed_by, location_of}
use Rattle.cfi_state.specs.Program.{no_rule, initial_rule, parts_of, refusal, refusal_at_end}
use Rattle.cfi_state.specs.Program.{IsAccepted}

module _ {T : Type 0} where
  abbrev pub refusals : Option Error → List (Result (Row T) Error)
  refusals None = []
  refusals (Some error) = Err error ∷ []

  -- ---- by what the accepted instructions leave

  abbrev pub row_until : Setting → Program T → ℕ → Row T
  row_until setting program end_address = record {
    start_address = location_of setting program;
    end_address = end_address;
    parts = parts_of setting program;
  }

  abbrev pub rows_ended :
      Setting → Program T → CallFrameInstruction T → List (Result (Row T) Error)
  rows_ended setting program instruction =
      if is_move instruction
      then Ok (row_until setting program
      (location_of setting (followed_by program instruction))) ∷ []
      else []

  -- those of an FDE: an instruction that is refused gives its error and is passed over; one that
  -- can't be read ends the instructions with its error, and the last row comes after it
  abbrev pub answers_of :
      Setting → Program T → List (CallFrameInstruction T) → Option Error
      → List (Result (Row T) Error)
  answers_of setting program [] unread =
      refusals unread ++ Ok (row_until setting program setting.end_address) ∷ []
  answers_of setting program (instruction ∷ rest) unread =
      on_option
      (rows_ended setting program instruction
      ++ answers_of setting (followed_by program instruction) rest unread)
      (λ error. Err error ∷ answers_of setting program rest unread)
      (refusal setting program instruction)

  abbrev pub answers :
      Setting → Program T → Readings (CallFrameInstruction T) → List (Result (Row T) Error)
  answers setting program reads = answers_of setting program reads.values reads.refusal

  -- the first instruction that is refused, else one that cannot be read, else the end
  abbrev pub first_refusal : Setting → Program T → List (CallFrameInstruction T) → Option Error
  first_refusal setting program [] = None
  first_refusal setting program (instruction ∷ rest) =
      option_or (refusal setting program instruction)
      (first_refusal setting (followed_by program instruction) rest)

  -- of a CIE, whose first refusal ends all rows: that of an instruction, of what can't be read, or
  -- of the end
  abbrev pub cie_refusal : Setting → Readings (CallFrameInstruction T) → Option Error
  cie_refusal setting reads =
      option_or (first_refusal setting (in_cie []) reads.values)
      (option_or reads.refusal (refusal_at_end setting reads.values))

  -- ---- by the machine

  -- a row that the step from one state to the next ends
  abbrev pub row_ended :
      State T → CallFrameInstruction T → State T → List (Result (Row T) Error)
  row_ended state instruction next =
      if is_move instruction
      then Ok (record {
        start_address = state.location;
        end_address = next.location;
        parts = state.parts;
      }) ∷ []
      else []

  abbrev pub run_answers_of :
      Setting → State T → List (CallFrameInstruction T) → Option Error
      → List (Result (Row T) Error)
  run_answers_of setting state [] unread =
      refusals unread
      ++ Ok (record {
        start_address = state.location;
        end_address = setting.end_address;
        parts = state.parts;
      }) ∷ []
  run_answers_of setting state (instruction ∷ rest) unread =
      on_result
      (λ next. row_ended state instruction next ++ run_answers_of setting next rest unread)
      (λ error. Err error ∷ run_answers_of setting state rest unread)
      (step setting state instruction)

  abbrev pub run_answers :
      Setting → State T → Readings (CallFrameInstruction T) → List (Result (Row T) Error)
  run_answers setting state reads = run_answers_of setting state reads.values reads.refusal

  abbrev pub run_all :
      Setting → State T → List (CallFrameInstruction T) → Result (State T) Error
  run_all setting state [] = Ok state
  run_all setting state (instruction ∷ rest) =
      on_result (λ next. run_all setting next rest) (λ error. Err error)
      (step setting state instruction)

  abbrev pub run_cie : Setting → Readings (CallFrameInstruction T) → Result (State T) Error
  run_cie setting reads =
      on_result
      (λ state. on_option (end_of_cie setting state) (λ error. Err error) reads.refusal)
      (λ error. Err error)
      (run_all setting fresh_state reads.values)

  -- ---- the machine's state after a program

  abbrev pub initial_rules_of : Setting → Program T → Option (Rules T)
  initial_rules_of setting (in_cie cie) = None
  initial_rules_of setting (in_fde cie fde) = Some (final_rules setting no_rule (survivors cie))

  abbrev pub remembered_of : Setting → Program T → List (Parts T)
  remembered_of setting program =
      map (λ before. final_parts setting (initial_rule setting program) (survivors before))
      (before_open (instructions program))

  abbrev pub program_state : Setting → Program T → State T
  program_state setting program = record {
    location = location_of setting program;
    parts = parts_of setting program;
    remembered = remembered_of setting program;
    initial_rules = initial_rules_of setting program;
  }

  -- the program is accepted, and the state is that after it
  abbrev pub IsStateAfter : Setting → State T → Program T → Type 0
  IsStateAfter setting state program =
      IsAccepted setting program × (state ≡ program_state setting program)

  -- ---- what a caller sees of the results

  abbrev pub rows_of : List (Result (Row T) Error) → List (Row T)
  rows_of results = filter_map result_ok results

  -- the rows follow each other from one address to another; only the last may end before its start
  abbrev pub AreConsecutive : ℕ → List (Row T) → ℕ → Type 0
  AreConsecutive from [] to = ⊥
  AreConsecutive from (row ∷ []) to = (row.start_address ≡ from) × (row.end_address ≡ to)
  AreConsecutive from (row ∷ next ∷ rows) to =
      (row.start_address ≡ from)
      × (row.start_address ≤ row.end_address)
      × AreConsecutive row.end_address (next ∷ rows) to

  -- the first error or row with the address
  abbrev pub answer_at : ℕ → List (Result (Row T) Error) → Result (Row T) Error
  answer_at address [] = Err NoUnwindInfoForAddress
  answer_at address (Err error ∷ rest) = Err error
  answer_at address (Ok row ∷ rest) =
      if row_contains address row then Ok row else answer_at address rest

  -- the result of an FDE for an address
  abbrev pub fde_answer :
      Setting → Readings (CallFrameInstruction T) → Readings (CallFrameInstruction T) → ℕ
      → Result (Row T) Error
  fde_answer setting cie fde address =
      on_option
      (answer_at address (answers setting (in_fde cie.values []) fde))
      (λ error. Err error)
      (cie_refusal setting cie)

  abbrev pub run_fde_answer :
      Setting → Readings (CallFrameInstruction T) → Readings (CallFrameInstruction T) → ℕ
      → Result (Row T) Error
  run_fde_answer setting cie fde address =
      on_result
      (λ state. answer_at address (run_answers setting state fde))
      (λ error. Err error)
      (run_cie setting cie)
