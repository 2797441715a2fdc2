use Rattle.std.proofs.Common.{◌∙◌, true, Some, refl}
use Rattle.cfi_compiled.proofs.Laws.{agrees_where_fixed}
use Rattle.cfi_guide.proofs.compiled_rows.row_by_both.Goals as goal

pub returns : goal.returns
returns g c = c.row.ensures.row ∙ agrees_where_fixed (Some 192) (Some 4) true _ c.args.table.now c.requires c.args.address _ c.row_by_scan.ensures.row (refl, refl, refl)
