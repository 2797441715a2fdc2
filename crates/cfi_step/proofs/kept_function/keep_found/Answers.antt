use Rattle.std.proofs.Common.{ℕ, Result, sym, ap, subst}
use Rattle.cfi_read_core.specs.declared.error.Error.{Error}
use Rattle.cfi_read_core.specs.ReaderCalls.{map_ok}
use Rattle.cfi_entry.specs.Fdes.{Fde}
use Rattle.cfi_entry.specs.Sections.{section_of}
use Rattle.cfi_unwind.specs.FdeViews.{fde_view}
use Rattle.cfi_step.specs.PackedRows.{KeepsFound, rows_in}
use Rattle.cfi_step.proofs.PackedKeeps.{keeps_none, keeps_of}
use Rattle.cfi_step.proofs.kept_function.keep_found.Goals as goal

pub returns-in-Ok-unwind_info_for_address : goal.returns-in-Ok-unwind_info_for_address
returns-in-Ok-unwind_info_for_address g c =
    let view = fde_view g.R.Reader.position (λ (n : ℕ). n) in
    let row = c.in-Ok-unwind_info_for_address in
    let section = section_of (g.Section._UnwindSectionPrivate.view c.args.placed.now.section.now) c.args.placed.now.bases.now in
    subst
    (λ (found : Result Fde Error). KeepsFound g.S.Rules.ArrayLike.limit g.S-Stack-ArrayLike.limit g.S.Rules.CopyList.copies_free section c.args.address found c.args.file (rows_in c.args.cache.now) (rows_in c.keep.new.self))
    (sym (ap (map_ok view) c.in-Ok.is))
    (keeps_of g.S.Rules.ArrayLike.limit g.S-Stack-ArrayLike.limit g.S.Rules.CopyList.copies_free section c.args.address (view c.in-Ok.fde) c.args.file row.row.now c.function_of.result (rows_in c.args.cache.now) (rows_in c.keep.new.self)
    row.ensures.row c.function_of.ensures c.keep.ensures)

pub returns-in-Err : goal.returns-in-Err
returns-in-Err g c =
    keeps_none g.S.Rules.ArrayLike.limit g.S-Stack-ArrayLike.limit g.S.Rules.CopyList.copies_free (section_of (g.Section._UnwindSectionPrivate.view c.args.placed.now.section.now) c.args.placed.now.bases.now) c.args.address
    (map_ok (fde_view g.R.Reader.position (λ (n : ℕ). n)) c.args.found) c.args.file (rows_in c.args.cache.now)

pub returns-in_default : goal.returns-in_default
returns-in_default g c =
    keeps_none g.S.Rules.ArrayLike.limit g.S-Stack-ArrayLike.limit g.S.Rules.CopyList.copies_free (section_of (g.Section._UnwindSectionPrivate.view c.args.placed.now.section.now) c.args.placed.now.bases.now) c.args.address
    (map_ok (fde_view g.R.Reader.position (λ (n : ℕ). n)) c.args.found) c.args.file (rows_in c.args.cache.now)
