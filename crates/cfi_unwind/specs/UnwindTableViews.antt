-- An unwind table of the code as what it means.
--     table_state position number table      its state, in numbers
--     table_parameters table      what stays fixed while its programs run, as the code has it
--     table_setting table rule_limit stack_limit      the same as what it means
--     HasSettingOf fde table      that is what the FDE and its CIE say, for any limits
--     holds_row table      whether the last call of `next_row` returned a row
--     context_now, context_row, context_name table      its context, the row in it, the reference
--         to it
--     IsNewTable      what making the table of an FDE returns
use Rattle.std.specs.Prelude.{◌≡◌, ℕ, Bool, Option, Result}
use Rattle.std.specs.Borrow.{GName}
use Rattle.cfi_read_core.specs.ReadFunctions.{Position}
use Rattle.cfi_read_core.specs.declared.error.Error.{Error}
use Rattle.cfi_parts.specs.InstructionIterators.{instruction_reader}
use Rattle.cfi_parts.specs.InstructionReaders.{instructions_left}
use Rattle.cfi_entry.specs.Sections.{Section}
use Rattle.cfi_entry.specs.Fdes.{Fde}
use Rattle.cfi_state.specs.declared.table.machine.Parameters.{Parameters}
use Rattle.cfi_state.specs.ContextEffects.{setting_of}
use Rattle.cfi_state.specs.Machine.{State}
use Rattle.cfi_state.specs.MachineSettings.{Setting}
use Rattle.cfi_state.specs.Row.{Row}
use Rattle.cfi_state.specs.UnwindContexts.{ContextState}
use Rattle.cfi_state.specs.UnwindTableStates.{TableState}
use Rattle.cfi_unwind.specs.declared.unwind_table.UnwindTable.{UnwindTable}
use Rattle.cfi_unwind.specs.AddressRow.{setting}
use Rattle.cfi_unwind.specs.UnwindTableCalls.{StartsRows, state_in_numbers}

-- the braces have the reader, the storage and what belongs to them, and what the reader's traits
-- say
abbrev pub table_state :
    {R S O E A K : Type 0} {a : _} {b : _} {c : _} {d : _} {e : _} {f : _} {g : _} {h : _} {i : _}
    {j : _} {k : _} →
    (R → Position) → (O → ℕ) → UnwindTable R S O E A K a b c d e f g h i j k →
    TableState (State ℕ) ℕ
table_state position number table = record {
  so_far = state_in_numbers number table.next_start_address table.context.now;
  left = instructions_left (instruction_reader position table.instructions);
  has_ended = table.has_ended;
}

abbrev pub table_parameters :
    {R S O E A K : Type 0} {a : _} {b : _} {c : _} {d : _} {e : _} {f : _} {g : _} {h : _} {i : _}
    {j : _} {k : _} →
    UnwindTable R S O E A K a b c d e f g h i j k → Parameters
table_parameters table = table.parameters

abbrev pub table_setting :
    {R S O E A K : Type 0} {a : _} {b : _} {c : _} {d : _} {e : _} {f : _} {g : _} {h : _} {i : _}
    {j : _} {k : _} →
    UnwindTable R S O E A K a b c d e f g h i j k → Option ℕ → Option ℕ → Setting
table_setting table = setting_of table.parameters

abbrev pub HasSettingOf :
    {R S O E A K : Type 0} {a : _} {b : _} {c : _} {d : _} {e : _} {f : _} {g : _} {h : _} {i : _}
    {j : _} {k : _} →
    Fde → UnwindTable R S O E A K a b c d e f g h i j k → Type 0
HasSettingOf fde table =
    (rule_limit stack_limit : Option ℕ) →
    setting_of table.parameters rule_limit stack_limit ≡ setting rule_limit stack_limit fde

abbrev pub holds_row :
    {R S O E A K : Type 0} {a : _} {b : _} {c : _} {d : _} {e : _} {f : _} {g : _} {h : _} {i : _}
    {j : _} {k : _} →
    UnwindTable R S O E A K a b c d e f g h i j k → Bool
holds_row table = table.holds_row

-- the context, its row, and the name of the reference to it
abbrev pub context_now :
    {R S O E A K : Type 0} {a : _} {b : _} {c : _} {d : _} {e : _} {f : _} {g : _} {h : _} {i : _}
    {j : _} {k : _} →
    UnwindTable R S O E A K a b c d e f g h i j k → ContextState O
context_now table = table.context.now

abbrev pub context_row :
    {R S O E A K : Type 0} {a : _} {b : _} {c : _} {d : _} {e : _} {f : _} {g : _} {h : _} {i : _}
    {j : _} {k : _} →
    UnwindTable R S O E A K a b c d e f g h i j k → Row O
context_row table = table.context.now.row

abbrev pub context_name :
    {R S O E A K : Type 0} {a : _} {b : _} {c : _} {d : _} {e : _} {f : _} {g : _} {h : _} {i : _}
    {j : _} {k : _} →
    UnwindTable R S O E A K a b c d e f g h i j k → GName
context_name table = table.context.ghost_name

-- The table is made in the storage's limits: it is before the first row of the FDE, or the CIE's
-- instructions are refused.
abbrev pub IsNewTable :
    {R S O E A K : Type 0} {a : _} {b : _} {c : _} {d : _} {e : _} {f : _} {g : _} {h : _} {i : _}
    {j : _} {k : _} →
    (R → Position) → (O → ℕ) → Option ℕ → Option ℕ → Bool → Section → Fde →
    Result (UnwindTable R S O E A K a b c d e f g h i j k) Error → Type 0
IsNewTable position number rule_limit stack_limit copies_free section fde made =
    StartsRows (table_state position number) (setting rule_limit stack_limit fde) copies_free
    section fde made
