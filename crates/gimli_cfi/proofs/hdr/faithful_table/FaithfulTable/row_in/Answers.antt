use Rattle.gimli_cfi.specs.HeaderViews.{listing_view}
use Rattle.gimli_cfi.proofs.Certificates.{row_by_scan}
use Rattle.gimli_cfi.proofs.TableRows.{reaches_all}
use Rattle.gimli_cfi.proofs.hdr.faithful_table.FaithfulTable.row_in.Goals as goal

pub returns-clause-row : goal.returns-clause-row
returns-clause-row g c = λ starts.
    let l = listing_view g.R.Reader.position c.args.self.now.table c.args.self.now.frame.now c.args.self.now.bases.now in
    row_by_scan _ _ _ l c.args.self.now.faithful
    (reaches_all (g.R.Reader.position c.args.self.now.frame.now.section) (g.R.Reader.position c.args.self.now.table.hdr.now.section) g.R.Offset.ReaderOffset.GREATEST
    (g.met.R.Reader.sound c.args.self.now.frame.now.section) (g.met.R.Reader.greatest c.args.self.now.frame.now.section) (g.met.R.Reader.greatest c.args.self.now.table.hdr.now.section))
    c.args.address _ _ starts c.row_by_table.ensures.found
