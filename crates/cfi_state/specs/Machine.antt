-- The machine of call frame instructions (DWARF 5, section 6.4.2), one step for each instruction.
--     State      the location, the parts of the row, and what is remembered
--     step      the state after an instruction, or its refusal
--     end_of_cie      the state in which the FDE's program begins, or the refusal
use Rattle.std.specs.Prelude.{ℕ, ◌+◌, if◌then◌else◌, not, ◌&&◌, nat_lt, nat_le, ℤ, pos, List, []}
use Rattle.std.specs.Prelude.{◌∷◌, length, Option, Some, None, Result, Ok, Err, bit_xor}
use Rattle.std.specs.Ordering.{nat_cmp}
use Rattle.std.specs.FinMap as map
use Rattle.std.specs.FinMap.{FinMap}
use Rattle.cfi_read_core.specs.declared.common.Register.{Register}
use Rattle.cfi_read_core.specs.declared.error.Error.{Error}
use Rattle.cfi_read_core.specs.declared.error.Error.TheVariants.{AddressOverflow, InvalidCfiSetLoc}
use Rattle.cfi_read_core.specs.declared.error.Error.TheVariants.{CfiInstructionInInvalidContext}
use Rattle.cfi_read_core.specs.declared.error.Error.TheVariants.{StackFull, PopWithEmptyStack}
use Rattle.cfi_read_core.specs.declared.error.Error.TheVariants.{TooManyRegisterRules}
use Rattle.cfi_read_core.specs.declared.instruction.CallFrameInstruction.{CallFrameInstruction}
use Rattle.cfi_state.specs.declared.table.rules.CfaRule.{CfaRule}
use Rattle.cfi_state.specs.declared.table.rules.CfaRule.TheVariants as cfa
use Rattle.cfi_state.specs.declared.table.rules.RegisterRule.{RegisterRule}
use Rattle.cfi_state.specs.declared.table.rules.RegisterRule.TheVariants as rule
use Rattle.cfi_state.specs.MachineSettings.{Setting, ra_sign_state, is_at_limit, advanced_location}
use Rattle.cfi_state.specs.MachineSettings.{fits_address}
use Rattle.cfi_state.specs.Actions.{Action, sets_location, advances_location, defines_cfa}
use Rattle.cfi_state.specs.Actions.{defines_cfa_register, defines_cfa_offset}
use Rattle.cfi_state.specs.Actions.{defines_cfa_expression, gives_rule, restores_rule}
use Rattle.cfi_state.specs.Actions.{toggles_sign_state, remembers_state, restores_state}
use Rattle.cfi_state.specs.Actions.{sets_args_size, changes_nothing, action}

-- the rules of registers, by number; a register that is not in the map has no rule
abbrev pub Rules : Type 0 → Type 0
Rules T = FinMap nat_cmp (RegisterRule T)

pub record Parts (T : Type 0) : Type 0 where
  pub cfa : CfaRule T
  pub rules : Rules T
  pub args_size : ℕ

-- `remembered` has the last remembered parts first. `initial_rules` are those that the CIE's
-- initial instructions end with, `None` while these run.
pub record State (T : Type 0) : Type 0 where
  pub location : ℕ
  pub parts : Parts T
  pub remembered : List (Parts T)
  pub initial_rules : Option (Rules T)

module _ {T : Type 0} where
  abbrev pub no_rules : Rules T
  no_rules = map.empty

  abbrev pub fresh_state : State T
  fresh_state = record {
    location = 0;
    parts = record {
      cfa = cfa.RegisterAndOffset (record { 0 = 0 }) (pos 0);
      rules = no_rules;
      args_size = 0;
    };
    remembered = [];
    initial_rules = None;
  }

  -- how many rows of the stack the initial rules count as: two rules or more count as one
  abbrev pub copies_held : Option (Rules T) → ℕ
  copies_held None = 0
  copies_held (Some rules) = if nat_le 2 (map.len rules) then 1 else 0

  -- the current row, the remembered ones and that of the initial rules
  abbrev pub rows_held : State T → ℕ
  rows_held state = 1 + length state.remembered + copies_held state.initial_rules

  abbrev pub with_cfa : State T → CfaRule T → State T
  with_cfa state rule = record state { parts = record state.parts { cfa = rule } }

  abbrev pub with_rules : State T → Rules T → State T
  with_rules state rules = record state { parts = record state.parts { rules = rules } }

  -- refused where the register has no rule and the map has no room
  abbrev pub set_rule : Setting → State T → ℕ → RegisterRule T → Result (State T) Error
  set_rule setting state register rule =
      if not (map.contains_key state.parts.rules register)
      && is_at_limit setting.rule_limit (map.len state.parts.rules)
      then Err TooManyRegisterRules
      else Ok (with_rules state (map.insert state.parts.rules register rule))

  abbrev pub set_or_remove_rule :
      Setting → State T → ℕ → Option (RegisterRule T) → Result (State T) Error
  set_or_remove_rule setting state register None =
      Ok (with_rules state (map.remove state.parts.rules register))
  set_or_remove_rule setting state register (Some rule) = set_rule setting state register rule

  -- the register gets its rule among the initial ones, which may be none
  abbrev pub restore_rule : Setting → State T → ℕ → Option (Rules T) → Result (State T) Error
  restore_rule setting state register None = Err CfiInstructionInInvalidContext
  restore_rule setting state register (Some initial) =
      set_or_remove_rule setting state register (map.get initial register)

  abbrev pub set_cfa_register : State T → Register → CfaRule T → Result (State T) Error
  set_cfa_register state register (cfa.RegisterAndOffset _ offset) =
      Ok (with_cfa state (cfa.RegisterAndOffset register offset))
  set_cfa_register state register (cfa.Expression _) = Err CfiInstructionInInvalidContext

  abbrev pub set_cfa_offset : State T → ℤ → CfaRule T → Result (State T) Error
  set_cfa_offset state offset (cfa.RegisterAndOffset register _) =
      Ok (with_cfa state (cfa.RegisterAndOffset register offset))
  set_cfa_offset state offset (cfa.Expression _) = Err CfiInstructionInInvalidContext

  abbrev pub toggle : Setting → State T → Option (RegisterRule T) → Result (State T) Error
  toggle setting state None = set_rule setting state ra_sign_state (rule.Constant 1)
  toggle setting state (Some (rule.Constant value)) =
      set_rule setting state ra_sign_state (rule.Constant (bit_xor value 1))
  toggle setting state (Some _) = Err CfiInstructionInInvalidContext

  abbrev pub restore_state : State T → List (Parts T) → Result (State T) Error
  restore_state state [] = Err PopWithEmptyStack
  restore_state state (parts ∷ remembered) =
      Ok (record state { parts = parts; remembered = remembered })

  abbrev pub perform : Setting → State T → Action T → Result (State T) Error
  perform setting state (sets_location address) =
      if nat_lt address state.location
      then Err (InvalidCfiSetLoc address)
      else Ok (record state { location = address })
  perform setting state (advances_location delta) =
      if fits_address setting (advanced_location setting state.location delta)
      then Ok (record state { location = advanced_location setting state.location delta })
      else Err AddressOverflow
  perform setting state (defines_cfa register offset) =
      Ok (with_cfa state
      (cfa.RegisterAndOffset register (offset setting.data_alignment_factor)))
  perform setting state (defines_cfa_register register) =
      set_cfa_register state register state.parts.cfa
  perform setting state (defines_cfa_offset offset) =
      set_cfa_offset state (offset setting.data_alignment_factor) state.parts.cfa
  perform setting state (defines_cfa_expression expression) =
      Ok (with_cfa state (cfa.Expression expression))
  perform setting state (gives_rule register rule) =
      set_rule setting state register.0 (rule setting.data_alignment_factor)
  perform setting state (restores_rule register) =
      restore_rule setting state register.0 state.initial_rules
  perform setting state toggles_sign_state =
      toggle setting state (map.get state.parts.rules ra_sign_state)
  perform setting state remembers_state =
      if is_at_limit setting.stack_limit (rows_held state)
      then Err StackFull
      else Ok (record state { remembered = state.parts ∷ state.remembered })
  perform setting state restores_state = restore_state state state.remembered
  perform setting state (sets_args_size size) =
      Ok (record state { parts = record state.parts { args_size = size } })
  perform setting state changes_nothing = Ok state

  abbrev pub step : Setting → State T → CallFrameInstruction T → Result (State T) Error
  step setting state instruction = perform setting state (action instruction)

  -- the FDE's program begins at the initial address, with the parts and the remembered parts that
  -- the CIE's initial instructions leave
  abbrev pub end_of_cie : Setting → State T → Result (State T) Error
  end_of_cie setting state =
      if nat_le 2 (map.len state.parts.rules) && is_at_limit setting.stack_limit (rows_held state)
      then Err StackFull
      else Ok (record state {
        location = setting.initial_address;
        initial_rules = Some state.parts.rules;
      })
