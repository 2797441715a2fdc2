-- Remembered and restored stretches of a list of call frame instructions (DWARF 5, section
-- 6.4.2.4). A row is remembered whole: the standard speaks of the rules of registers; the CFA and
-- the size of arguments (DW_CFA_GNU_args_size) are restored too. A CIE's instructions and those of
-- an FDE are one list, so a pair may begin in the CIE.
--     matches      the restore_state at one index belongs to the remember_state at another
--     is_struck      the instruction is not a move, and lies within such a pair or at an end of it
--     survivors      the instructions that are not struck
--     open_indices      the indices of the remember_states that nothing matches
use Rattle.std.specs.Prelude.{ℕ, ◌+◌, Bool, false, if◌then◌else◌, not, ◌&&◌, nat_lt, nat_le, ◌==◌}
use Rattle.std.specs.Prelude.{List, length, map, reverse, take, slice_get, slice_range, filter}
use Rattle.std.specs.Prelude.{filter_map, count_by, None}
use Rattle.std.specs.List.{list_any, list_all, range_with_len}
use Rattle.std.specs.Option.{option_map_or}
use Rattle.cfi_read_core.specs.declared.instruction.CallFrameInstruction.{CallFrameInstruction}
use Rattle.cfi_state.specs.MachineSettings.{is_move, is_remember, is_restore}

module _ {T : Type 0} where
  abbrev pub indices : List (CallFrameInstruction T) → List ℕ
  indices list = range_with_len 0 (length list)

  abbrev pub is_at : (CallFrameInstruction T → Bool) → List (CallFrameInstruction T) → ℕ → Bool
  is_at test list index = option_map_or test (slice_get list index) false

  -- as many of the one kind as of the other, and no prefix has more restore_states than
  -- remember_states
  abbrev pub is_balanced : List (CallFrameInstruction T) → Bool
  is_balanced list =
      (count_by is_remember list == count_by is_restore list)
      && list_all
      (λ n. nat_le (count_by is_restore (take n list)) (count_by is_remember (take n list)))
      (indices list)

  abbrev pub matches : List (CallFrameInstruction T) → ℕ → ℕ → Bool
  matches list remembers restores =
      nat_lt remembers restores
      && (is_at is_remember list remembers
      && (is_at is_restore list restores
      && is_balanced (slice_range list (remembers + 1) restores)))

  -- within a remember_state and the restore_state that belongs to it, or at an end of the two
  abbrev pub is_within_pair : List (CallFrameInstruction T) → ℕ → Bool
  is_within_pair list index =
      list_any
      (λ remembers. nat_le remembers index
      && list_any (λ restores. nat_le index restores && matches list remembers restores)
      (indices list))
      (indices list)

  abbrev pub is_struck : List (CallFrameInstruction T) → ℕ → Bool
  is_struck list index = not (is_at is_move list index) && is_within_pair list index

  abbrev pub survivors : List (CallFrameInstruction T) → List (CallFrameInstruction T)
  survivors list =
      filter_map (λ index. if is_struck list index then None else slice_get list index)
      (indices list)

  abbrev pub is_open : List (CallFrameInstruction T) → ℕ → Bool
  is_open list index =
      is_at is_remember list index && not (list_any (matches list index) (indices list))

  abbrev pub open_indices : List (CallFrameInstruction T) → List ℕ
  open_indices list = filter (is_open list) (indices list)

  -- the instructions before each open remember_state, those before the last one first
  abbrev pub before_open : List (CallFrameInstruction T) → List (List (CallFrameInstruction T))
  before_open list = map (λ index. take index list) (reverse (open_indices list))
