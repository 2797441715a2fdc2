use Rattle.std.proofs.Common.{Ok}
use Rattle.gimli_cfi.specs.Words.{IsCacheOf, IsOf, partial_view}
use Rattle.gimli_cfi.proofs.Callers.{ok_answered_by, read_by}
use Rattle.cfi_guide.proofs.CachedCalls.{own, part}
use Rattle.cfi_guide.proofs.cached_cies.whole_fde.Goals as goal

pub returns-clause-read : goal.returns-clause-read
returns-clause-read g c =
    read_by _ _ _ _ _ _ (λ cache. IsCacheOf g.R.Reader.position g.R.Offset.ReaderOffset.number (g.S._UnwindSectionPrivate.view c.args.partial.now.section) c.args.partial.now.bases.now cache.0.now) (Ok (partial_view g.R.Reader.position g.R.Offset.ReaderOffset.number c.args.partial.now)) _ _ (c.new-cache.ensures (g.S._UnwindSectionPrivate.view c.args.partial.now.section) c.args.partial.now.bases.now) c.parse.ensures.read
    (λ f asked answer h holds call. own g.R.Reader.position g.R.Offset.ReaderOffset.number g.S._UnwindSectionPrivate.view c.args.partial.now.section call.shown_section.now c.args.partial.now.bases.now call.shown_bases.now call.at_section call.at_bases f.0.now h.0.now (g.R.Offset.ReaderOffset.number (g.S.Offset.UnwindOffset.offset asked)) answer call.call.met.1 holds)

pub returns-clause-cie_part : goal.returns-clause-cie_part
returns-clause-cie_part g c =
    ok_answered_by _ _ _ (λ fde. fde.cie) (λ cache. IsCacheOf g.R.Reader.position g.R.Offset.ReaderOffset.number (g.S._UnwindSectionPrivate.view c.args.partial.now.section) c.args.partial.now.bases.now cache.0.now)
    (λ cie. IsOf (g.R.Reader.position cie.initial_instructions) (g.S._UnwindSectionPrivate.view c.args.partial.now.section).position) _ (c.new-cache.ensures (g.S._UnwindSectionPrivate.view c.args.partial.now.section) c.args.partial.now.bases.now) _ c.parse.ensures.cie
    (λ f asked answer h holds call. part g.R.Reader.position g.R.Offset.ReaderOffset.number g.S._UnwindSectionPrivate.view c.args.partial.now.section call.shown_section.now c.args.partial.now.bases.now call.shown_bases.now call.at_section call.at_bases f.0.now h.0.now (g.R.Offset.ReaderOffset.number (g.S.Offset.UnwindOffset.offset asked)) answer call.call.met.1 holds)
