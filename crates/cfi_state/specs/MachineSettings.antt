-- What stays fixed while call frame instructions run (DWARF 5, section 6.4.2), which instructions
-- move the location, and where to.
--     Setting      the entry's factors and addresses, and the storage's limits
--     next_location      the location after an instruction
--     rule_given      the register that an action gives a rule, and the rule
use Rattle.std.specs.Prelude.{ℕ, ◌+◌, ◌*◌, ◌%◌, ◌^◌, Bool, true, false, ◌==◌, ℤ, Option, Some, None}
use Rattle.cfi_read_core.specs.Addresses.{fits}
use Rattle.cfi_read_core.specs.declared.common.Register.{Register}
use Rattle.cfi_read_core.specs.declared.instruction.CallFrameInstruction.{CallFrameInstruction}
use Rattle.cfi_state.specs.declared.table.rules.RegisterRule.{RegisterRule}
use Rattle.cfi_state.specs.Actions.{Action, sets_location, advances_location, gives_rule}
use Rattle.cfi_state.specs.Actions.{remembers_state, restores_state, toggles_sign_state, action}

-- A limit of `None` is no limit.
pub record Setting : Type 0 where
  pub address_size : ℕ
  pub code_alignment_factor : ℕ
  pub data_alignment_factor : ℤ
  pub initial_address : ℕ
  pub end_address : ℕ
  pub rule_limit : Option ℕ
  pub stack_limit : Option ℕ

-- the register that holds whether the return address is signed (AArch64)
abbrev pub ra_sign_state : ℕ
ra_sign_state = 34

-- whether the count has reached the limit
abbrev pub is_at_limit : Option ℕ → ℕ → Bool
is_at_limit None count = false
is_at_limit (Some limit) count = count == limit

-- the location moved by `delta` times the code alignment factor; the product wraps
abbrev pub advanced_location : Setting → ℕ → ℕ → ℕ
advanced_location setting location delta =
    location + delta * setting.code_alignment_factor % 2 ^ 64

abbrev pub fits_address : Setting → ℕ → Bool
fits_address setting address = fits setting.address_size address

module _ {T : Type 0} where
  -- ---- of actions

  abbrev pub location_after : Setting → ℕ → Action T → ℕ
  location_after setting location (sets_location address) = address
  location_after setting location (advances_location delta) =
      advanced_location setting location delta
  location_after setting location _ = location

  -- the moves end a row (DWARF 5, section 6.4.2.1)
  abbrev pub moves : Action T → Bool
  moves (sets_location address) = true
  moves (advances_location delta) = true
  moves _ = false

  abbrev pub remembers : Action T → Bool
  remembers remembers_state = true
  remembers _ = false

  abbrev pub restores : Action T → Bool
  restores restores_state = true
  restores _ = false

  abbrev pub is_toggle : Action T → Bool
  is_toggle toggles_sign_state = true
  is_toggle _ = false

  -- the register that an action gives a rule, and the rule (DWARF 5, section 6.4.2.3)
  abbrev pub rule_given : Setting → Action T → Option (Register × RegisterRule T)
  rule_given setting (gives_rule register rule) =
      Some (register, rule setting.data_alignment_factor)
  rule_given setting _ = None

  -- ---- of instructions

  abbrev pub next_location : Setting → ℕ → CallFrameInstruction T → ℕ
  next_location setting location instruction = location_after setting location (action instruction)

  abbrev pub is_move : CallFrameInstruction T → Bool
  is_move instruction = moves (action instruction)

  abbrev pub is_remember : CallFrameInstruction T → Bool
  is_remember instruction = remembers (action instruction)

  abbrev pub is_restore : CallFrameInstruction T → Bool
  is_restore instruction = restores (action instruction)
