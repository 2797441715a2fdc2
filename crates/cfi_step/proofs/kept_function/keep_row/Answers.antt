use Rattle.std.proofs.Common.{ℕ, subst}
use Rattle.cfi_read_core.specs.ReaderCalls.{map_ok}
use Rattle.cfi_unwind.specs.FdeViews.{fde_view}
use Rattle.cfi_step.specs.PackedRows.{IsKept, rows_in}
use Rattle.cfi_step.proofs.FoundFdes.{covers_if_found}
use Rattle.cfi_step.proofs.kept_function.keep_row.Goals as goal

pub returns : goal.returns
returns g c =
    let at = c.address_in_file-address in
    let view = fde_view g.R.Reader.position (λ (n : ℕ). n) in
    subst
    (λ (a : ℕ). IsKept g.R.Reader.position c.args.address_size g.S.Rules.ArrayLike.limit g.S-Stack-ArrayLike.limit g.S.Rules.CopyList.copies_free c.args.loaded.now a c.args.file (rows_in c.args.cache.now) (rows_in c.keep_found.new.cache))
    at.ensures (map_ok view c.fde_in_module-found.result, c.fde_in_module-found.ensures.found, covers_if_found view c.fde_in_module-found.result at.result c.fde_in_module-found.ensures.contains, c.keep_found.ensures)
