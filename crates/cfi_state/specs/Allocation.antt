-- Where an instruction may allocate: where a list without a limit grows, or where a row is copied
-- and copies allocate. `copies_free` says that copies of a row's rules do not.
--     MayAllocate      whether an instruction, and the end of a CIE's initial ones, may allocate
--     AreNever allocates      none may
--     may_allocate setting copies_free      whether they may over a storage
--     may_allocate_at      whether an instruction may allocate in a state
--     may_allocate_at_end      whether the end of a CIE's initial instructions may
use Rattle.std.specs.Prelude.{◌≡◌, ℕ, nat_le, Bool, false, not, ◌&&◌, ◌||◌, Option, Some, None}
use Rattle.std.specs.Prelude.{is_some}
use Rattle.std.specs.FinMap as map
use Rattle.cfi_read_core.specs.declared.instruction.CallFrameInstruction.{CallFrameInstruction}
use Rattle.cfi_state.specs.Actions.{Action, gives_rule, restores_rule, toggles_sign_state}
use Rattle.cfi_state.specs.Actions.{remembers_state, action}
use Rattle.cfi_state.specs.MachineSettings.{Setting, ra_sign_state}
use Rattle.cfi_state.specs.Machine.{Rules, State}

-- where an instruction, and where the end of the CIE's initial instructions, may allocate
pub record MayAllocate (T : Type 0) : Type 0 where
  pub at : State T → CallFrameInstruction T → Bool
  pub at_end : State T → Bool

-- nowhere
pub record AreNever {T : Type 0} (allocates : MayAllocate T) : Type 0 where
  pub at : (state : State T) (instruction : CallFrameInstruction T)
      → allocates.at state instruction ≡ false
  pub at_end : (state : State T) → allocates.at_end state ≡ false

-- a row is copied onto the stack
abbrev pub copies_row : Setting → Bool → Bool
copies_row setting copies_free = not (is_some setting.stack_limit && copies_free)

module _ {T : Type 0} where
  -- the register gets its first rule, in a list without a limit
  abbrev pub adds_rule : Setting → State T → ℕ → Bool
  adds_rule setting state register =
      not (is_some setting.rule_limit) && not (map.contains_key state.parts.rules register)

  abbrev pub has_initial_rule : Option (Rules T) → ℕ → Bool
  has_initial_rule None register = false
  has_initial_rule (Some rules) register = map.contains_key rules register

  abbrev pub may_allocate_for : Setting → Bool → State T → Action T → Bool
  may_allocate_for setting copies_free state (gives_rule register rule) =
      adds_rule setting state register.0
  may_allocate_for setting copies_free state (restores_rule register) =
      has_initial_rule state.initial_rules register.0 && adds_rule setting state register.0
  may_allocate_for setting copies_free state toggles_sign_state =
      adds_rule setting state ra_sign_state
  may_allocate_for setting copies_free state remembers_state = copies_row setting copies_free
  may_allocate_for setting copies_free state _ = false

  abbrev pub may_allocate_at : Setting → Bool → State T → CallFrameInstruction T → Bool
  may_allocate_at setting copies_free state instruction =
      may_allocate_for setting copies_free state (action instruction)

  -- the initial rules are copied to a list that is already there
  abbrev pub may_allocate_at_end : Setting → Bool → State T → Bool
  may_allocate_at_end setting copies_free state =
      nat_le 1 (map.len state.parts.rules) && not (is_some setting.rule_limit || copies_free)

  -- over a storage, by its limits and by whether copies of its rules do not allocate
  abbrev pub may_allocate : Setting → Bool → MayAllocate T
  may_allocate setting copies_free = record {
    at = may_allocate_at setting copies_free;
    at_end = may_allocate_at_end setting copies_free;
  }
