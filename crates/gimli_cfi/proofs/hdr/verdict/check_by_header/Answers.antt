use Rattle.std.proofs.Common.{ap, sym, refl, ◌∙◌}
use Rattle.gimli_cfi.specs.EhFrameHdr.{header_section}
use Rattle.gimli_cfi.specs.HeaderViews.{header_section_view, header_view, listing_view}
use Rattle.gimli_cfi.proofs.CheckVerdictLemmas.{is_checked}
use Rattle.gimli_cfi.proofs.hdr.verdict.check_by_header.Goals as goal

pub returns-in-Ok-new : goal.returns-in-Ok-new
returns-in-Ok-new g c =
    let listing = listing_view g.R.Reader.position c.in-Some.table c.args.frame.now c.args.bases.now in
    let same = (λ i. header_section_view g.R.Reader.position (c.in-Some.ensures.header i) c.args.bases.now)
    ∙ (λ i. header_section (g.R.Reader.position (c.in-Ok.ensures.section i)) (c.in-Ok.ensures.size i) c.args.bases.now.eh_frame_hdr) in
    let points = ap (λ p. p.eh_frame_ptr) (sym c.in-Some.ensures.header) in (
      listing,
      is_checked _ _ (header_view g.R.Reader.position c.in-Ok.header) listing c.in-Ok.ensures.read c.in-Some.ensures.rows points same refl,
      c.in-Ok-new.ensures.faithful,
      ap (λ bounds. bounds.0) c.size_hint-rows.ensures.exact ∙ ap (λ walk. walk.count) c.iter.ensures.all,
    )

pub returns-in-Err-new : goal.returns-in-Err-new
returns-in-Err-new g c =
    let listing = listing_view g.R.Reader.position c.in-Some.table c.args.frame.now c.args.bases.now in
    let same = (λ i. header_section_view g.R.Reader.position (c.in-Some.ensures.header i) c.args.bases.now)
    ∙ (λ i. header_section (g.R.Reader.position (c.in-Ok.ensures.section i)) (c.in-Ok.ensures.size i) c.args.bases.now.eh_frame_hdr) in
    let points = ap (λ p. p.eh_frame_ptr) (sym c.in-Some.ensures.header) in (
      listing,
      is_checked _ _ (header_view g.R.Reader.position c.in-Ok.header) listing c.in-Ok.ensures.read c.in-Some.ensures.rows points same refl,
      c.in-Err-new.ensures.reason,
      c.in-Err-new.ensures.unfaithful,
    )
