use Rattle.std.proofs.Common.{◌≡◌, Err, Ok, ap, rules}
use Rattle.cfi_read_core.specs.ReaderCalls.{map_ok}
use Rattle.cfi_unwind.specs.FdeViews.{fde_view}
use Rattle.gimli_cfi.specs.HeaderViews.{section_view, header_section_view, table_view}
use Rattle.gimli_cfi.proofs.TableFinds.{found_through}
use Rattle.gimli_cfi.proofs.hdr.by_table.table_fde.Goals as goal

pub returns-in_err-target-clause-found : goal.returns-in_err-target-clause-found
returns-in_err-target-clause-found g c =
    let gives : c.from_residual.result ≡ Err c.in_err-target.field-0.0 = search rules in
    found_through (g.St.StartSource.answer c.args.starts.now) (header_section_view g.R.Reader.position c.args.table.now.hdr.now c.args.bases.now)
    (table_view g.R.Reader.position c.args.table.now) c.args.table.now.hdr.now.eh_frame_ptr (section_view g.R.Reader.position c.args.frame.now c.args.bases.now) c.args.address
    (Err c.in_err-target.field-0.0) _ (ap (map_ok (fde_view g.R.Reader.position g.R.Offset.ReaderOffset.number)) gives) c.in_err-target.ensures.found

pub returns-clause-found : goal.returns-clause-found
returns-clause-found g c =
    found_through (g.St.StartSource.answer c.args.starts.now) (header_section_view g.R.Reader.position c.args.table.now.hdr.now c.args.bases.now)
    (table_view g.R.Reader.position c.args.table.now) c.args.table.now.hdr.now.eh_frame_ptr (section_view g.R.Reader.position c.args.frame.now c.args.bases.now) c.args.address
    (Ok c.in_ok-target.target) _ c.fde_of_target.ensures.found c.in_ok-target.ensures.found
