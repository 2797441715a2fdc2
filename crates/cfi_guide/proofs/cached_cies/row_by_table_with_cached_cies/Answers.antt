use Rattle.gimli_cfi.specs.Words.{IsCacheOf}
use Rattle.gimli_cfi.proofs.Callers.{answered_by}
use Rattle.gimli_cfi.specs.Words.{eh_frame_view}
use Rattle.cfi_guide.proofs.CachedCalls.{part}
use Rattle.cfi_guide.proofs.cached_cies.row_by_table_with_cached_cies.Goals as goal

pub unwind_info_for_address-requires-clause-of_section : goal.unwind_info_for_address-requires-clause-of_section
unwind_info_for_address-requires-clause-of_section g c =
    answered_by _ _ _ (λ cache. IsCacheOf g.R.Reader.position g.R.Offset.ReaderOffset.number (eh_frame_view g.R.Reader.position c.args.frame.now) c.args.bases.now cache.0.now) _ _ (c.new-cache.ensures (eh_frame_view g.R.Reader.position c.args.frame.now) c.args.bases.now)
    (λ f asked answer h holds call. part g.R.Reader.position g.R.Offset.ReaderOffset.number (eh_frame_view g.R.Reader.position) c.args.frame.now call.shown_section.now c.args.bases.now call.shown_bases.now call.at_section call.at_bases f.0.now h.0.now (g.R.Offset.ReaderOffset.number asked.0) answer call.call.met.1.1 holds)

pub returns : goal.returns
returns g c =
    let row = c.unwind_info_for_address.ensures.row in
    record { row = (row.0, row.3) }
