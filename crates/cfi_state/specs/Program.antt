-- A program of call frame instructions: those of a CIE, and after its end those of an FDE (DWARF 5,
-- section 6.4.3). What it leaves, and which instruction it refuses next, without a machine.
--     Program, followed_by      the instructions so far, and one more
--     parts_of, location_of      the row's parts and the location after a program
--     refusal, refusal_at_end      why the next instruction, or the end of the CIE's initial
--         instructions, is refused
--     IsAccepted      none of a program's instructions was refused after those before it
use Rattle.std.specs.Prelude.{◌≡◌, ℕ, ◌+◌, Bool, true, false, if◌then◌else◌, not, ◌&&◌, nat_lt}
use Rattle.std.specs.Prelude.{nat_le, ◌==◌, List, [], ◌∷◌, ◌++◌, length, fold, Option, Some, None}
use Rattle.std.specs.Prelude.{is_some}
use Rattle.std.specs.Option.{option_or}
use Rattle.cfi_read_core.specs.declared.error.Error.{Error}
use Rattle.cfi_read_core.specs.declared.error.Error.TheVariants.{AddressOverflow, InvalidCfiSetLoc}
use Rattle.cfi_read_core.specs.declared.error.Error.TheVariants.{CfiInstructionInInvalidContext}
use Rattle.cfi_read_core.specs.declared.error.Error.TheVariants.{StackFull, PopWithEmptyStack}
use Rattle.cfi_read_core.specs.declared.error.Error.TheVariants.{TooManyRegisterRules}
use Rattle.cfi_read_core.specs.declared.instruction.CallFrameInstruction.{CallFrameInstruction}
use Rattle.cfi_state.specs.Actions.{Action, sets_location, advances_location, defines_cfa}
use Rattle.cfi_state.specs.Actions.{defines_cfa_register, defines_cfa_offset}
use Rattle.cfi_state.specs.Actions.{defines_cfa_expression, gives_rule, restores_rule}
use Rattle.cfi_state.specs.Actions.{toggles_sign_state, remembers_state, restores_state}
use Rattle.cfi_state.specs.Actions.{sets_args_size, changes_nothing, action}
use Rattle.cfi_state.specs.declared.table.rules.CfaRule.{CfaRule}
use Rattle.cfi_state.specs.declared.table.rules.CfaRule.TheVariants as cfa
use Rattle.cfi_state.specs.declared.table.rules.RegisterRule.{RegisterRule}
use Rattle.cfi_state.specs.declared.table.rules.RegisterRule.TheVariants as rule
use Rattle.cfi_state.specs.Machine.{Parts}
use Rattle.cfi_state.specs.MachineSettings.{Setting, ra_sign_state, is_at_limit, advanced_location}
use Rattle.cfi_state.specs.MachineSettings.{fits_address, next_location}
use Rattle.cfi_state.specs.RememberedStates.{survivors, open_indices}
use Rattle.cfi_state.specs.LastWriters.{final_cfa, final_rule, registers_with_rule, final_parts}

-- the instructions of a CIE before its end, or all of them and those of an FDE
pub data Program (T : Type 0) : Type 0 where
  in_cie : List (CallFrameInstruction T) → Program T
  in_fde : List (CallFrameInstruction T) → List (CallFrameInstruction T) → Program T

abbrev pub refused_if : Bool → Error → Option Error
refused_if true error = Some error
refused_if false error = None

module _ {T : Type 0} where
  abbrev pub instructions : Program T → List (CallFrameInstruction T)
  instructions (in_cie cie) = cie
  instructions (in_fde cie fde) = cie ++ fde

  abbrev pub followed_by : Program T → CallFrameInstruction T → Program T
  followed_by (in_cie cie) instruction = in_cie (cie ++ instruction ∷ [])
  followed_by (in_fde cie fde) instruction = in_fde cie (fde ++ instruction ∷ [])

  abbrev pub location_of : Setting → Program T → ℕ
  location_of setting (in_cie cie) = fold (next_location setting) 0 cie
  location_of setting (in_fde cie fde) = fold (next_location setting) setting.initial_address fde

  abbrev pub no_rule : ℕ → Option (RegisterRule T)
  no_rule register = None

  -- the rules that the CIE's initial instructions leave when they end, whatever the FDE strikes
  abbrev pub initial_rule : Setting → Program T → ℕ → Option (RegisterRule T)
  initial_rule setting (in_cie cie) = no_rule
  initial_rule setting (in_fde cie fde) = final_rule setting no_rule (survivors cie)

  abbrev pub cfa_of : Setting → Program T → CfaRule T
  cfa_of setting program = final_cfa setting (survivors (instructions program))

  abbrev pub rule_of : Setting → Program T → ℕ → Option (RegisterRule T)
  rule_of setting program =
      final_rule setting (initial_rule setting program) (survivors (instructions program))

  abbrev pub parts_of : Setting → Program T → Parts T
  parts_of setting program =
      final_parts setting (initial_rule setting program) (survivors (instructions program))

  -- ---- counts

  abbrev pub open_count : Program T → ℕ
  open_count program = length (open_indices (instructions program))

  abbrev pub rule_count : Setting → Program T → ℕ
  rule_count setting program =
      length (registers_with_rule setting (initial_rule setting program)
      (survivors (instructions program)))

  -- how many rows of the stack the CIE's rules count as: two rules or more count as one
  abbrev pub extra_count : Setting → Program T → ℕ
  extra_count setting (in_cie cie) = 0
  extra_count setting (in_fde cie fde) =
      if nat_le 2 (rule_count setting (in_cie cie)) then 1 else 0

  abbrev pub is_stack_full : Setting → Program T → Bool
  is_stack_full setting program =
      is_at_limit setting.stack_limit (1 + open_count program + extra_count setting program)

  -- ---- refusals

  abbrev pub is_expression : CfaRule T → Bool
  is_expression (cfa.RegisterAndOffset register offset) = false
  is_expression (cfa.Expression expression) = true

  abbrev pub is_no_constant : Option (RegisterRule T) → Bool
  is_no_constant None = false
  is_no_constant (Some (rule.Constant value)) = false
  is_no_constant (Some _) = true

  abbrev pub is_in_cie : Program T → Bool
  is_in_cie (in_cie cie) = true
  is_in_cie (in_fde cie fde) = false

  -- the register has no rule, and there is no room for one more
  abbrev pub has_no_room : Setting → Program T → ℕ → Bool
  has_no_room setting program register =
      not (is_some (rule_of setting program register))
      && is_at_limit setting.rule_limit (rule_count setting program)

  abbrev pub refusal_of : Setting → Program T → Action T → Option Error
  refusal_of setting program (sets_location address) =
      refused_if (nat_lt address (location_of setting program)) (InvalidCfiSetLoc address)
  refusal_of setting program (advances_location delta) =
      refused_if
      (not (fits_address setting (advanced_location setting (location_of setting program) delta)))
      AddressOverflow
  refusal_of setting program (defines_cfa register offset) = None
  refusal_of setting program (defines_cfa_register register) =
      refused_if (is_expression (cfa_of setting program)) CfiInstructionInInvalidContext
  refusal_of setting program (defines_cfa_offset offset) =
      refused_if (is_expression (cfa_of setting program)) CfiInstructionInInvalidContext
  refusal_of setting program (defines_cfa_expression expression) = None
  refusal_of setting program (gives_rule register rule) =
      refused_if (has_no_room setting program register.0) TooManyRegisterRules
  refusal_of setting program (restores_rule register) =
      option_or
      (refused_if (is_in_cie program) CfiInstructionInInvalidContext)
      (refused_if
      (is_some (initial_rule setting program register.0)
      && has_no_room setting program register.0)
      TooManyRegisterRules)
  refusal_of setting program toggles_sign_state =
      option_or
      (refused_if (is_no_constant (rule_of setting program ra_sign_state))
      CfiInstructionInInvalidContext)
      (refused_if (has_no_room setting program ra_sign_state) TooManyRegisterRules)
  refusal_of setting program remembers_state =
      refused_if (is_stack_full setting program) StackFull
  refusal_of setting program restores_state =
      refused_if (open_count program == 0) PopWithEmptyStack
  refusal_of setting program (sets_args_size size) = None
  refusal_of setting program changes_nothing = None

  abbrev pub refusal : Setting → Program T → CallFrameInstruction T → Option Error
  refusal setting program instruction = refusal_of setting program (action instruction)

  -- the end of the CIE's initial instructions
  abbrev pub refusal_at_end : Setting → List (CallFrameInstruction T) → Option Error
  refusal_at_end setting cie =
      refused_if (nat_le 2 (rule_count setting (in_cie cie)) && is_stack_full setting (in_cie cie))
      StackFull

  -- ---- accepted

  pub data IsAccepted (setting : Setting) : Program T → Type 0 where
    nothing : IsAccepted setting (in_cie [])
    one_more : (program : Program T) (instruction : CallFrameInstruction T)
        → IsAccepted setting program
        → refusal setting program instruction ≡ None
        → IsAccepted setting (followed_by program instruction)
    cie_ended : (cie : List (CallFrameInstruction T))
        → IsAccepted setting (in_cie cie)
        → refusal_at_end setting cie ≡ None
        → IsAccepted setting (in_fde cie [])
