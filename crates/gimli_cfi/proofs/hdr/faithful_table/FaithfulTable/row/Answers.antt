use Rattle.std.proofs.Common.{sym}
use Rattle.gimli_cfi.specs.HeaderViews.{listing_view, starts_view}
use Rattle.gimli_cfi.proofs.Certificates.{never_unsearchable}
use Rattle.gimli_cfi.proofs.hdr.faithful_table.FaithfulTable.row.Goals as goal

pub returns-in_err-starts-clause-row : goal.returns-in_err-starts-clause-row
returns-in_err-starts-clause-row g c =
    never_unsearchable (listing_view g.R.Reader.position c.args.self.now.table c.args.self.now.frame.now c.args.self.now.bases.now) _ c.args.self.now.faithful (sym c.in_err-starts.ensures.searchable)

pub returns-clause-row : goal.returns-clause-row
returns-clause-row g c =
    let same_section_and_bases = c.in_ok-starts.ensures.same_section_and_bases in
    c.row_in.ensures.row (λ k within i. starts_view g.R.Reader.position (same_section_and_bases.0 i) (same_section_and_bases.1 i) k)
