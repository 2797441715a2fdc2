use Rattle.std.proofs.Common.{◌≡◌, false}
use Rattle.std.specs.List.{AllWithin}
use Rattle.cfi_step.specs.PackedRows.{is_kept}
use Rattle.cfi_step.proofs.row_cache.forget_each.Given as goal

-- the rows before this one are forgotten
abbrev pub invariant-loop-row : goal.invariant-loop-row
invariant-loop-row l = AllWithin (λ row. is_kept row ≡ false) l.row-items 0 l.row-index
