-- What a contract sees of an unwind table: its state, in numbers.
--     state_in_numbers number location context      the state of the machine
--     table_state position number table      the state of a table (`UnwindTableViews`)
--     GivesNextAnswer s copies_free p answer q      over a storage, a table in the state p answers
--         next, and then is in the state q
--     AnswersWithoutMachine, AcceptsCieProgram      the same without a machine, and of the program
--         of a CIE
--     StartsRows      what making the table of an FDE answers
--     IsNextOrMemory, KeepsExpressionsIn      what its answer is of those to come, and where the
--         expressions in it lie
--     LendsNextRow      what a call of `next_row` yields
use Rattle.std.specs.Prelude.{◌≡◌, ◌≤◌, ◌<◌, ◌⊎◌, ℕ, Bool, true, false, List, [], Option, Some}
use Rattle.std.specs.Prelude.{None, is_some, IfSome, Result, Ok, Err, IfOk, MatchResult}
use Rattle.std.specs.Option.{option_map}
use Rattle.std.specs.List.{count_by}
use Rattle.std.specs.Borrow.{Bor}
use Rattle.cfi_read_core.specs.ReadFunctions.{Position, Readings}
use Rattle.cfi_read_core.specs.ReaderCalls.{map_ok}
use Rattle.cfi_read_core.specs.declared.error.Error.{Error}
use Rattle.cfi_read_core.specs.declared.error.Error.TheVariants.{OutOfMemory}
use Rattle.cfi_read_core.specs.ExpressionPlaces.{LiesIn}
use Rattle.cfi_parts.specs.Instructions.{Instruction}
use Rattle.cfi_state.specs.Row.{Row, row_contains}
use Rattle.cfi_state.specs.MachineSettings.{Setting}
use Rattle.cfi_state.specs.Machine.{State, fresh_state}
use Rattle.cfi_state.specs.UnwindContexts.{ContextState, machine_state}
use Rattle.cfi_state.specs.MappedStates.{map_state, map_row, lent_row}
use Rattle.cfi_read_core.specs.ListLimits.{IsFixed}
use Rattle.cfi_state.specs.UnwindTableStates.{TableState, before_last_row, after_last_row}
use Rattle.cfi_state.specs.UnwindTableStates.{run_answers_to_come, rows_to_come, IsNext}
use Rattle.cfi_state.specs.RowExpressions.{EachExpression, EachOfTable}
use Rattle.cfi_state.specs.Program.{in_fde}
use Rattle.cfi_state.specs.FdeAnswers.{IsStateAfter, AreConsecutive}
use Rattle.cfi_state.specs.MachineRuns.{current_row, NextAnswer, RunsInitialInstructions}
use Rattle.cfi_state.specs.Allocation.{may_allocate}
use Rattle.cfi_state.specs.AcceptedInstructions.{AnswersForProgram, AcceptsInitialInstructions}
use Rattle.cfi_entry.specs.Sections.{Section, position_of}
use Rattle.cfi_entry.specs.Fdes.{Fde}
use Rattle.cfi_entry.specs.EntryInstructions.{cie_instructions, fde_instructions}

abbrev pub GivesNextAnswer :
    Setting → Bool → TableState (State ℕ) ℕ → Result (Option (Row ℕ)) Error →
    TableState (State ℕ) ℕ → Type 0
GivesNextAnswer s copies_free = NextAnswer (may_allocate s copies_free) s

module _ {T : Type 0} (number : T → ℕ) where
  abbrev pub state_in_numbers : ℕ → ContextState T → State ℕ
  state_in_numbers location context = map_state number (machine_state location context)

  -- the answer that a run up to the end of a row makes due: the row up to the address of the move,
  -- or up to the FDE's end
  abbrev pub row_due :
      Setting → ℕ → ContextState T → Result (Option ℕ) Error → Result (Option (Row ℕ)) Error
  row_due s location context (Ok (Some address)) =
      Ok (Some (current_row (state_in_numbers location context) address))
  row_due s location context (Ok None) =
      Ok (Some (current_row (state_in_numbers location context) s.end_address))
  row_due s location context (Err e) = Err e

  -- where the table then is
  abbrev pub state_after :
      ℕ → ContextState T → Readings Instruction → Result (Option ℕ) Error → TableState (State ℕ) ℕ
  state_after location context left (Ok (Some address)) =
      before_last_row (state_in_numbers address context) left
  state_after location context left (Ok None) =
      after_last_row (state_in_numbers location context) left
  state_after location context left (Err e) =
      before_last_row (state_in_numbers location context) left

  -- the row of the context where one was found
  abbrev pub row_given : ContextState T → Result Bool Error → Result (Option (Row ℕ)) Error
  row_given context (Ok true) = Ok (Some (map_row number context.row))
  row_given context (Ok false) = Ok None
  row_given context (Err e) = Err e

-- The answer is the first of those that were to come, or memory was refused, and an instruction is
-- left out. Over a fixed storage it is the first.
pub record IsNextOrMemory (s : Setting) (copies_free : Bool) (p : TableState (State ℕ) ℕ)
    (answer : Result (Option (Row ℕ)) Error) (q : TableState (State ℕ) ℕ) : Type 0 where
  pub due :
      IsNext (run_answers_to_come s p) answer (run_answers_to_come s q) ⊎ (answer ≡ Err OutOfMemory)
  pub fixed :
      IsFixed s.rule_limit s.stack_limit copies_free →
      IsNext (run_answers_to_come s p) answer (run_answers_to_come s q)

-- Where the expressions that a table has lie in a section, those of the row that it answers do, and
-- of what it then has.
abbrev pub KeepsExpressionsIn :
    TableState (State ℕ) ℕ → Result (Option (Row ℕ)) Error → TableState (State ℕ) ℕ → Type 0
KeepsExpressionsIn p answer q =
    (section : Position) → EachOfTable (LiesIn section) p →
    EachOfTable (LiesIn section) q
    × IfOk answer (λ found. IfSome found (λ row. EachExpression (LiesIn section) row.parts))

-- ---- without a machine

-- From each program after which the table stands, the answer is the next one that the definition
-- without a machine gives, and the table then stands after that program followed by the
-- instructions that were kept.
pub record AnswersWithoutMachine (s : Setting) (copies_free : Bool) (p : TableState (State ℕ) ℕ)
    (answer : Result (Option (Row ℕ)) Error) (q : TableState (State ℕ) ℕ) : Type 0 where
  pub from : AnswersForProgram (may_allocate s copies_free) s p answer q

-- The program of a CIE is kept, and the state stands after it.
abbrev pub AcceptsCieProgram :
    Setting → Bool → Readings Instruction → Result (State ℕ) Error → Type 0
AcceptsCieProgram s copies_free cie (Ok x) =
    (kept : List Instruction)
    × AcceptsInitialInstructions (may_allocate s copies_free) s [] cie (Ok kept)
    × IsStateAfter s x (in_fde kept [])
AcceptsCieProgram s copies_free cie (Err e) =
    AcceptsInitialInstructions (may_allocate s copies_free) s [] cie (Err e)

-- ---- the table of an FDE

-- What making the table of an FDE answered: the refusal of the CIE's initial instructions, or a
-- table that stands after that program and before all of the FDE's instructions.
pub record StartsRows {X : Type 0} (place : X → TableState (State ℕ) ℕ) (s : Setting)
    (copies_free : Bool) (section : Section) (fde : Fde) (made : Result X Error) : Type 0 where
  pub run :
      RunsInitialInstructions (may_allocate s copies_free) s fresh_state
      (cie_instructions section fde.cie) (map_ok (λ x. (place x).so_far) made)
  pub kept :
      AcceptsCieProgram s copies_free (cie_instructions section fde.cie)
      (map_ok (λ x. (place x).so_far) made)
  pub left : IfOk made (λ x. (place x).left ≡ fde_instructions section fde)
  pub has_not_ended : IfOk made (λ x. (place x).has_ended ≡ false)
  -- the rows follow each other from the FDE's first address to its end, and each address of it lies
  -- in exactly one
  pub consecutive :
      IfOk made (λ x. AreConsecutive s.initial_address (rows_to_come s (place x)) s.end_address)
  pub each_once :
      IfOk made
      (λ x.
      (address : ℕ) → s.initial_address ≤ address → address < s.end_address →
      count_by (row_contains address) (rows_to_come s (place x)) ≡ 1)
  -- the expressions of the two programs, and so of the rows, lie in the section
  pub expressions : IfOk made (λ x. EachOfTable (LiesIn (position_of section)) (place x))

-- ---- rows that are lent

-- A call returned the row of the context, and the table holds it where there is one.
pub record LendsNextRow {T : Type 0} (number : T → ℕ) (s : Setting) (copies_free : Bool)
    (old : TableState (State ℕ) ℕ) (result : Result (Option (Bor (Row T))) Error)
    (new : TableState (State ℕ) ℕ) (context : ContextState T) (holds_row : Bool) : Type 0 where
  pub next : GivesNextAnswer s copies_free old (map_ok (option_map (lent_row number)) result) new
  pub kept :
      AnswersWithoutMachine s copies_free old (map_ok (option_map (lent_row number)) result) new
  pub due : IsNextOrMemory s copies_free old (map_ok (option_map (lent_row number)) result) new
  pub expressions : KeepsExpressionsIn old (map_ok (option_map (lent_row number)) result) new
  pub row : IfOk result (λ found. IfSome found (λ row. row.now ≡ context.row))
  pub held : MatchResult result (λ found. holds_row ≡ is_some found) (λ _. holds_row ≡ false)
