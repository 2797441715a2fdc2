use Rattle.std.proofs.Common.{◌≡◌, false, length}
use Rattle.std.specs.List.{All}
use Rattle.cfi_step.specs.PackedRows.{is_kept}
use Rattle.cfi_step.proofs.row_cache.RowCache.new.Given as goal

-- as many rows as this are made, and none is one as yet
abbrev pub invariant-loop : goal.invariant-loop
invariant-loop l = All (λ row. is_kept row ≡ false) l.rows.items × (length l.rows.items ≡ l.counter)
