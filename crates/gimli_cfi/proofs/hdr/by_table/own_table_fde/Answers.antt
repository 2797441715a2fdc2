use Rattle.std.proofs.Common.{Err, Ok, refl}
use Rattle.gimli_cfi.specs.HeaderViews.{section_view, header_section_view, starts_view, table_view}
use Rattle.gimli_cfi.proofs.TableFinds.{found_through}
use Rattle.gimli_cfi.proofs.hdr.by_table.own_table_fde.Goals as goal

pub returns-in-Err-clause-found : goal.returns-in-Err-clause-found
returns-in-Err-clause-found g c =
    found_through (starts_view g.R.Reader.position c.args.table.now.hdr.now c.args.bases.now) (header_section_view g.R.Reader.position c.args.table.now.hdr.now c.args.bases.now)
    (table_view g.R.Reader.position c.args.table.now) c.args.table.now.hdr.now.eh_frame_ptr (section_view g.R.Reader.position c.args.frame.now c.args.bases.now) c.args.address
    (Err c.in-Err.error) _ refl (rw c.in-Err.is at c.lookup_counted-target.ensures.found)

pub returns-in-Ok-clause-found : goal.returns-in-Ok-clause-found
returns-in-Ok-clause-found g c =
    found_through (starts_view g.R.Reader.position c.args.table.now.hdr.now c.args.bases.now) (header_section_view g.R.Reader.position c.args.table.now.hdr.now c.args.bases.now)
    (table_view g.R.Reader.position c.args.table.now) c.args.table.now.hdr.now.eh_frame_ptr (section_view g.R.Reader.position c.args.frame.now c.args.bases.now) c.args.address
    (Ok c.in-Ok.target) _ c.fde_of_target.ensures.found (rw c.in-Ok.is at c.lookup_counted-target.ensures.found)
