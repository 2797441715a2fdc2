use Rattle.gimli_cfi.specs.Words.{IsCacheOf}
use Rattle.cfi_guide.proofs.FoundRow.{by_scan}
use Rattle.gimli_cfi.proofs.Callers.{answered_by, chosen_by}
use Rattle.cfi_guide.proofs.CachedCalls.{own, part}
use Rattle.cfi_guide.proofs.cached_cies.row_with_cached_cies.Goals as goal

pub unwind_info_for_address-requires-clause-of_section : goal.unwind_info_for_address-requires-clause-of_section
unwind_info_for_address-requires-clause-of_section g c =
    answered_by _ _ _ (λ cache. IsCacheOf g.R.Reader.position g.R.Offset.ReaderOffset.number (g.Section._UnwindSectionPrivate.view c.args.section.now) c.args.bases.now cache.0.now) _ _ (c.new-cache.ensures (g.Section._UnwindSectionPrivate.view c.args.section.now) c.args.bases.now)
    (λ f asked answer h holds call. part g.R.Reader.position g.R.Offset.ReaderOffset.number g.Section._UnwindSectionPrivate.view c.args.section.now call.shown_section.now c.args.bases.now call.shown_bases.now call.at_section call.at_bases f.0.now h.0.now (g.R.Offset.ReaderOffset.number (g.Section.Offset.UnwindOffset.offset asked)) answer call.call.met.1 holds)

pub returns : goal.returns
returns g c =
    let row = c.unwind_info_for_address.ensures.row in
    record {
      row = by_scan _ _ _ _ _ row.0 _
          (chosen_by _ _ _ _ _ _ (λ cache. IsCacheOf g.R.Reader.position g.R.Offset.ReaderOffset.number (g.Section._UnwindSectionPrivate.view c.args.section.now) c.args.bases.now cache.0.now) _ _ row.0 row.1 (c.new-cache.ensures (g.Section._UnwindSectionPrivate.view c.args.section.now) c.args.bases.now) row.2
          (λ f asked answer h holds call. own g.R.Reader.position g.R.Offset.ReaderOffset.number g.Section._UnwindSectionPrivate.view c.args.section.now call.shown_section.now c.args.bases.now call.shown_bases.now call.at_section call.at_bases f.0.now h.0.now (g.R.Offset.ReaderOffset.number (g.Section.Offset.UnwindOffset.offset asked)) answer call.call.met.1 holds)) row.3;
    }
