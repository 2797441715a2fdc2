use Rattle.std.proofs.Common.{◌≡◌, false}
use Rattle.std.specs.List.{AllWithin}
use Rattle.cfi_step.specs.CachedRows.{is_full}
use Rattle.cfi_step.proofs.cached_rows.clear_rows.Given as goal

-- the slots before this one are empty
abbrev pub invariant-loop-slot : goal.invariant-loop-slot
invariant-loop-slot l = AllWithin (λ slot. is_full slot ≡ false) l.slot-items 0 l.slot-index
