-- What a contract sees of an unwind context.
--     ContextState      its rows, and the rules that the CIE's initial instructions end with
--     machine_state      the state of the machine, which keeps no addresses of rows
--     context_remember, context_restore, context_end_of_cie      what the operations do
use Rattle.std.specs.Prelude.{◌≡◌, ℕ, ◌+◌, ◌≤◌, Option, Some, None, List, [], ◌∷◌, ◌++◌, length}
use Rattle.std.specs.Prelude.{map, take, reverse, nat_le, ◌&&◌, if◌then◌else◌, ◌⊎◌, Bool, false}
use Rattle.std.specs.Prelude.{IsNone, Result, Ok, Err}
use Rattle.std.specs.FinMap.{get, len}
use Rattle.cfi_read_core.specs.declared.error.Error.{Error}
use Rattle.cfi_read_core.specs.declared.error.Error.TheVariants.{StackFull, PopWithEmptyStack}
use Rattle.cfi_read_core.specs.declared.error.Error.TheVariants.{CfiInstructionInInvalidContext}
use Rattle.cfi_state.specs.declared.table.rules.RegisterRule.{RegisterRule}
use Rattle.cfi_read_core.specs.ListLimits.{HasRoomFor}
use Rattle.cfi_state.specs.MachineSettings.{is_at_limit}
use Rattle.cfi_state.specs.Machine.{Rules, State, copies_held}
use Rattle.cfi_state.specs.Row.{Row, empty_row, with_parts}

-- the current row, the remembered rows, the last first, and the rules that the CIE's initial
-- instructions end with, `None` while these run
pub record ContextState (T : Type 0) : Type 0 where
  pub row : Row T
  pub remembered : List (Row T)
  pub initial_rules : Option (Rules T)

-- the copy of a row may run out of memory only where the stack has no limit or copies allocate
abbrev pub AddsRow : Option ℕ → Bool → Type 0
AddsRow limit copies_free = IsNone limit ⊎ (copies_free ≡ false)

module _ {T : Type 0} where
  abbrev pub machine_state : ℕ → ContextState T → State T
  machine_state location context = record {
    location = location;
    parts = context.row.parts;
    remembered = map (λ (row : Row T). row.parts) context.remembered;
    initial_rules = context.initial_rules;
  }

  -- ---- how the fields are seen

  abbrev pub initial_of : Rules T → Bool → Option (Rules T)
  initial_of rules has_ended_cie = if has_ended_cie then Some rules else None

  -- the first `depth` rows of the stack are the remembered ones
  abbrev pub context_of : Row T → List (Row T) → ℕ → Rules T → Bool → ContextState T
  context_of row rows depth rules has_ended_cie = record {
    row = row;
    remembered = reverse (take depth rows);
    initial_rules = initial_of rules has_ended_cie;
  }

  -- the current row and the initial rules count as rows of the stack
  abbrev pub IsContext : Option ℕ → List (Row T) → ℕ → Rules T → Bool → Type 0
  IsContext limit rows depth rules has_ended_cie =
      (depth ≤ length rows)
      × HasRoomFor limit (1 + depth + copies_held (initial_of rules has_ended_cie))

  -- the rows before the index are unchanged
  abbrev pub IsSameBelow : ℕ → List (Row T) → List (Row T) → Type 0
  IsSameBelow index old new = (index ≤ length new) × (take index new ≡ take index old)

  -- the row follows the first `depth` rows
  abbrev pub IsKept : List (Row T) → ℕ → Row T → List (Row T) → ℕ → Type 0
  IsKept old depth row new deeper =
      (deeper ≡ depth + 1)
      × (deeper ≤ length new)
      × (take deeper new ≡ take depth old ++ row ∷ [])

  abbrev pub later_rows : List (Row T) → List (Row T)
  later_rows [] = []
  later_rows (row ∷ rows) = rows

  -- ---- what the operations do

  -- the context before the first instruction
  abbrev pub empty_context : ContextState T
  empty_context = record { row = empty_row; remembered = []; initial_rules = None }

  abbrev pub with_row : ContextState T → Row T → ContextState T
  with_row context row = record context { row = row }

  -- how many rows the stack counts, the current one among them
  abbrev pub context_rows_held : ContextState T → ℕ
  context_rows_held context = 1 + length context.remembered + copies_held context.initial_rules

  -- DW_CFA_remember_state (DWARF 5 section 6.4.2.4)
  abbrev pub context_remember : Option ℕ → ContextState T → Result (ContextState T) Error
  context_remember limit context =
      if is_at_limit limit (context_rows_held context)
      then Err StackFull
      else Ok (record context { remembered = context.row ∷ context.remembered })

  abbrev pub context_restore_from :
      ContextState T → List (Row T) → Result (ContextState T) Error
  context_restore_from context [] = Err PopWithEmptyStack
  context_restore_from context (row ∷ rows) =
      Ok (record context { row = with_parts context.row row.parts; remembered = rows })

  -- DW_CFA_restore_state: all but the addresses comes back
  abbrev pub context_restore : ContextState T → Result (ContextState T) Error
  context_restore context = context_restore_from context context.remembered

  -- the end of the CIE's initial instructions; two rules or more count as a row
  abbrev pub context_end_of_cie : Option ℕ → ContextState T → Result (ContextState T) Error
  context_end_of_cie limit context =
      if nat_le 2 (len context.row.parts.rules) && is_at_limit limit (context_rows_held context)
      then Err StackFull
      else Ok (record context { initial_rules = Some context.row.parts.rules })

  abbrev pub initial_rule_in : Option (Rules T) → ℕ → Result (Option (RegisterRule T)) Error
  initial_rule_in None register = Err CfiInstructionInInvalidContext
  initial_rule_in (Some rules) register = Ok (get rules register)

  -- the rule that the register had when the CIE's initial instructions ended
  abbrev pub initial_rule : ContextState T → ℕ → Result (Option (RegisterRule T)) Error
  initial_rule context register = initial_rule_in context.initial_rules register
