-- A row of an unwind table (DWARF 5 section 6.4.1): the unwind rules, and the addresses for which
-- they hold.
use Rattle.std.specs.Prelude.{ℕ, Bool, nat_le, nat_lt, ◌&&◌, ◌<◌, ◌≤◌}
use Rattle.cfi_state.specs.declared.table.rules.CfaRule.{CfaRule}
use Rattle.cfi_state.specs.Machine.{Parts, Rules, fresh_state}

-- from the start address up to the end address
pub record Row (T : Type 0) : Type 0 where
  pub start_address : ℕ
  pub end_address : ℕ
  pub parts : Parts T

module _ {T : Type 0} where
  -- from the start address up to the end address, without the latter
  abbrev pub RowContains : ℕ → Row T → Type 0
  RowContains address row = (row.start_address ≤ address) × (address < row.end_address)

  -- the same, computed
  abbrev pub row_contains : ℕ → Row T → Bool
  row_contains address row = nat_le row.start_address address && nat_lt address row.end_address

  -- the row before the first instruction
  abbrev pub empty_row : Row T
  empty_row = record { start_address = 0; end_address = 0; parts = fresh_state.parts }

  -- the row between two addresses
  abbrev pub at_addresses : Row T → ℕ → ℕ → Row T
  at_addresses row start end = record row { start_address = start; end_address = end }

  -- the row with another part
  abbrev pub with_parts : Row T → Parts T → Row T
  with_parts row parts = record row { parts = parts }

  abbrev pub row_with_cfa : Row T → CfaRule T → Row T
  row_with_cfa row cfa = with_parts row (record row.parts { cfa = cfa })

  abbrev pub with_args_size : Row T → ℕ → Row T
  with_args_size row size = with_parts row (record row.parts { args_size = size })

  abbrev pub row_with_rules : Row T → Rules T → Row T
  row_with_rules row rules = with_parts row (record row.parts { rules = rules })
