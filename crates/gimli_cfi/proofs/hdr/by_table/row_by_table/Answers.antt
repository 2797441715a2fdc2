use Rattle.std.proofs.Common.{◌≡◌, Err, ap, inl, rules}
use Rattle.cfi_read_core.specs.ReaderCalls.{map_ok}
use Rattle.gimli_cfi.specs.HeaderViews.{section_view, header_section_view, table_view}
use Rattle.gimli_cfi.proofs.TableRows.{as_by_scan, reaches_all}
use Rattle.gimli_cfi.proofs.hdr.by_table.row_by_table.Goals as goal

pub returns-in_err-fde-clause-faithful : goal.returns-in_err-fde-clause-faithful
returns-in_err-fde-clause-faithful g c = λ eh_frame at faithful same.
    let gives : c.from_residual.result ≡ Err c.in_err-fde.field-0.0 = search rules in
    let reaches = reaches_all (g.R.Reader.position c.args.frame.now.section) (g.R.Reader.position c.args.table.now.hdr.now.section) g.R.Offset.ReaderOffset.GREATEST
    (g.met.R.Reader.sound c.args.frame.now.section) (g.met.R.Reader.greatest c.args.frame.now.section) (g.met.R.Reader.greatest c.args.table.now.hdr.now.section) in
    as_by_scan _ _ _ (section_view g.R.Reader.position c.args.frame.now c.args.bases.now) c.args.address _
    (header_section_view g.R.Reader.position c.args.table.now.hdr.now c.args.bases.now) (table_view g.R.Reader.position c.args.table.now) c.args.table.now.hdr.now.eh_frame_ptr eh_frame
    (g.St.StartSource.answer c.args.starts.now) _ at faithful reaches same c.in_err-fde.ensures.found
    (inl (ap (map_ok _) gives))

pub returns-clause-faithful : goal.returns-clause-faithful
returns-clause-faithful g c = λ eh_frame at faithful same.
    let reaches = reaches_all (g.R.Reader.position c.args.frame.now.section) (g.R.Reader.position c.args.table.now.hdr.now.section) g.R.Offset.ReaderOffset.GREATEST
    (g.met.R.Reader.sound c.args.frame.now.section) (g.met.R.Reader.greatest c.args.frame.now.section) (g.met.R.Reader.greatest c.args.table.now.hdr.now.section) in
    as_by_scan _ _ _ (section_view g.R.Reader.position c.args.frame.now c.args.bases.now) c.args.address _
    (header_section_view g.R.Reader.position c.args.table.now.hdr.now c.args.bases.now) (table_view g.R.Reader.position c.args.table.now) c.args.table.now.hdr.now.eh_frame_ptr eh_frame
    (g.St.StartSource.answer c.args.starts.now) _ at faithful reaches same c.in_ok-fde.ensures.found
    c.unwind_info_for_address.ensures.row

pub returns-clause-found : goal.returns-clause-found
returns-clause-found g c = (_, c.in_ok-fde.ensures.found, c.unwind_info_for_address.ensures.row)
