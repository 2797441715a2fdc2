-- The rules of a row: as a map by registers' numbers, and as the list of pairs that keeps them.
--     rules_of      the map of a list of pairs
--     IsDistinctRegisters      no register occurs twice
--     IsRising      the registers strictly rise
--     BelongsAt      the register does not occur, and a pair of it belongs at the index
use Rattle.std.specs.Prelude.{◌≡◌, ℕ, ◌<◌, ◌≤◌, Bool, false, List, map, length, slice_index_or}
use Rattle.std.specs.Prelude.{Option, IsNone, Result, Ok, Err, not, ◌&&◌, if◌then◌else◌}
use Rattle.std.specs.List.{IsDistinct}
use Rattle.std.specs.List.Sorted.{IsStrictlySortedBy}
use Rattle.std.specs.Ordering.{nat_cmp, eq_by_cmp}
use Rattle.std.specs.FinMap.{from_entries, insert, len, contains_key}
use Rattle.cfi_read_core.specs.declared.common.Register.{Register}
use Rattle.cfi_read_core.specs.declared.error.Error.{Error}
use Rattle.cfi_read_core.specs.declared.error.Error.TheVariants.{TooManyRegisterRules}
use Rattle.cfi_state.specs.declared.table.rules.RegisterRule.{RegisterRule}
use Rattle.cfi_state.specs.MachineSettings.{is_at_limit}
use Rattle.cfi_state.specs.Machine.{Rules}

module _ {T : Type 0} where
  abbrev pub numbered_pair : Register × RegisterRule T → ℕ × RegisterRule T
  numbered_pair pair = (pair.0.0, pair.1)

  abbrev pub rules_of : List (Register × RegisterRule T) → Rules T
  rules_of pairs = from_entries (map numbered_pair pairs)

  abbrev pub IsDistinctRegisters : List (Register × RegisterRule T) → Type 0
  IsDistinctRegisters pairs =
      IsDistinct (eq_by_cmp nat_cmp) (map (λ entry. entry.0) (map numbered_pair pairs))

  abbrev pub IsRising : List (Register × RegisterRule T) → Type 0
  IsRising pairs =
      IsStrictlySortedBy nat_cmp (map (λ entry. entry.0) (map numbered_pair pairs))

  -- each register before the index is lower, and each from there on is higher
  abbrev pub BelongsAt : List (Register × RegisterRule T) → ℕ → Register → Type 0
  BelongsAt pairs index register =
      (index ≤ length pairs)
      × ((i : ℕ) (default : Register × RegisterRule T) → i < index
      → (slice_index_or pairs i default).0.0 < register.0)
      × ((i : ℕ) (default : Register × RegisterRule T) → index ≤ i → i < length pairs
      → register.0 < (slice_index_or pairs i default).0.0)

  -- the rules with one set; only a register without a rule needs room
  abbrev pub map_set_rule :
      Option ℕ → Rules T → ℕ → RegisterRule T → Result (Rules T) Error
  map_set_rule limit rules register rule =
      if not (contains_key rules register) && is_at_limit limit (len rules)
      then Err TooManyRegisterRules
      else Ok (insert rules register rule)

  -- setting a rule may run out of memory only where the list has no limit and the register no rule
  abbrev pub AddsRule : Option ℕ → Rules T → ℕ → Type 0
  AddsRule limit rules register = IsNone limit × (contains_key rules register ≡ false)

  -- copying rules to a list that is there may run out of memory only where the list has no limit,
  -- copies allocate, and there is a rule
  abbrev pub AddsRules : Option ℕ → Bool → Rules T → Type 0
  AddsRules limit copies_free rules =
      IsNone limit × (copies_free ≡ false) × (1 ≤ len rules)
