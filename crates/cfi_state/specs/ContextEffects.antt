-- What the evaluation of an instruction does to a context and returns, by the machine's step.
--     setting_of      what stays fixed, and the limits of a storage
--     Evaluates      what an instruction at a location does to a context, and the result
--     Runs      the same, and the result is an address if the instruction is a move
--     EndsCie      the same of the end of a CIE's initial instructions
use Rattle.std.specs.Prelude.{◌≡◌, ℕ, Bool, List, ◌∷◌, Option, Some, None, is_some, Result, Ok, Err}
use Rattle.std.specs.Prelude.{IfOk}
use Rattle.cfi_read_core.specs.declared.error.Error.{Error}
use Rattle.cfi_read_core.specs.AddressSizes.{size_in_bytes}
use Rattle.cfi_read_core.specs.declared.instruction.CallFrameInstruction.{CallFrameInstruction}
use Rattle.cfi_state.specs.Actions.{Action, remembers_state, restores_state, action}
use Rattle.cfi_state.specs.declared.table.machine.Parameters.{Parameters}
use Rattle.cfi_state.specs.MachineSettings.{Setting, is_move}
use Rattle.cfi_state.specs.Machine.{step, end_of_cie}
use Rattle.cfi_state.specs.Allocation.{may_allocate_at, may_allocate_at_end}
use Rattle.cfi_state.specs.AllocatingOperations.{IsRefusal}
use Rattle.cfi_state.specs.Row.{Row}
use Rattle.cfi_state.specs.UnwindContexts.{ContextState, machine_state, later_rows}

abbrev pub setting_of : Parameters → Option ℕ → Option ℕ → Setting
setting_of parameters rule_limit stack_limit = record {
  address_size = size_in_bytes parameters.address_size;
  code_alignment_factor = parameters.code_alignment_factor;
  data_alignment_factor = parameters.data_alignment_factor;
  initial_address = parameters.initial_address;
  end_address = parameters.end_address;
  rule_limit = rule_limit;
  stack_limit = stack_limit;
}

module _ {T : Type 0} where
  -- the remembered rows after an action; they keep the addresses that they had
  abbrev pub rows_after : Action T → ContextState T → List (Row T)
  rows_after remembers_state context = context.row ∷ context.remembered
  rows_after restores_state context = later_rows context.remembered
  rows_after _ context = context.remembered

  abbrev pub remembered_after : CallFrameInstruction T → ContextState T → List (Row T)
  remembered_after instruction context = rows_after (action instruction) context

-- An accepted instruction that is not a move: the step from the old state gives the new one, and no
-- row changes its addresses.
pub record IsChange {T : Type 0} (setting : Setting) (location : ℕ)
    (instruction : CallFrameInstruction T) (old new : ContextState T) : Type 0 where
  pub accepted :
      step setting (machine_state location old) instruction ≡ Ok (machine_state location new)
  pub start_address : new.row.start_address ≡ old.row.start_address
  pub end_address : new.row.end_address ≡ old.row.end_address
  pub remembered_rows : new.remembered ≡ remembered_after instruction old
  pub initial_rules : new.initial_rules ≡ old.initial_rules

-- The end of a CIE's initial instructions, where the FDE's begin: no row changes.
pub record IsEnd {T : Type 0} (setting : Setting) (location : ℕ)
    (old new : ContextState T) : Type 0 where
  pub accepted :
      end_of_cie setting (machine_state location old)
      ≡ Ok (machine_state setting.initial_address new)
  pub row : new.row ≡ old.row
  pub remembered_rows : new.remembered ≡ old.remembered

module _ {T : Type 0} where
  -- an error leaves the context as it was; `copies_free` says that copies of a row's rules do not
  -- allocate
  abbrev pub IsRefusedStep :
      Setting → Bool → ℕ → CallFrameInstruction T → ContextState T → ContextState T → Error → Type 0
  IsRefusedStep setting copies_free location instruction old new error =
      (new ≡ old)
      × IsRefusal (may_allocate_at setting copies_free (machine_state location old) instruction)
      (step setting (machine_state location old) instruction) error

  abbrev pub Changes :
      Setting → Bool → ℕ → CallFrameInstruction T → ContextState T → ContextState T
      → Result (Unit {0}) Error → Type 0
  Changes setting copies_free location instruction old new (Ok _) =
      IsChange setting location instruction old new
  Changes setting copies_free location instruction old new (Err error) =
      IsRefusedStep setting copies_free location instruction old new error

  -- a move, too, leaves the context as it was; the state is then at the address that is returned
  abbrev pub Evaluates :
      Setting → Bool → ℕ → CallFrameInstruction T → ContextState T → ContextState T
      → Result (Option ℕ) Error → Type 0
  Evaluates setting copies_free location instruction old new (Ok None) =
      IsChange setting location instruction old new
  Evaluates setting copies_free location instruction old new (Ok (Some address)) =
      (step setting (machine_state location old) instruction ≡ Ok (machine_state address old))
      × (new ≡ old)
  Evaluates setting copies_free location instruction old new (Err error) =
      IsRefusedStep setting copies_free location instruction old new error

  abbrev pub Runs :
      Setting → Bool → ℕ → CallFrameInstruction T → ContextState T → ContextState T
      → Result (Option ℕ) Error → Type 0
  Runs setting copies_free location instruction old new result =
      Evaluates setting copies_free location instruction old new result
      × IfOk result (λ moved. is_some moved ≡ is_move instruction)

  abbrev pub EndsCie :
      Setting → Bool → ℕ → ContextState T → ContextState T → Result (Unit {0}) Error → Type 0
  EndsCie setting copies_free location old new (Ok _) = IsEnd setting location old new
  EndsCie setting copies_free location old new (Err error) =
      (new ≡ old)
      × IsRefusal (may_allocate_at_end setting copies_free (machine_state location old))
      (end_of_cie setting (machine_state location old)) error
