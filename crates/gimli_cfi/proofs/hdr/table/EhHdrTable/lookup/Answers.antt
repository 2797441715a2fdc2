use Rattle.gimli_cfi.specs.EhFrameHdr.{value_size, target_of}
use Rattle.gimli_cfi.specs.HeaderViews.{header_section_view, starts_view, table_view}
use Rattle.gimli_cfi.proofs.Searches.{rising_row}
use Rattle.gimli_cfi.proofs.hdr.table.EhHdrTable.lookup.Goals as goal

pub returns-clause-rising : goal.returns-clause-rising
returns-clause-rising g c = λ searchable rising.
    rising_row (value_size c.args.self.now.hdr.now.table_enc.0)
    (starts_view g.R.Reader.position c.args.self.now.hdr.now c.args.bases.now) (table_view g.R.Reader.position c.args.self.now) c.args.address
    (target_of (header_section_view g.R.Reader.position c.args.self.now.hdr.now c.args.bases.now) (table_view g.R.Reader.position c.args.self.now))
    c.lookup_counted-target.result.0 searchable rising c.lookup_counted-target.ensures.found
