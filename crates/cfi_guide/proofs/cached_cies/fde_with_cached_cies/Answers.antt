use Rattle.gimli_cfi.specs.Words.{IsCacheOf, IsOf}
use Rattle.gimli_cfi.proofs.Callers.{chosen_by, ok_answered_by}
use Rattle.cfi_guide.proofs.CachedCalls.{own, part}
use Rattle.cfi_guide.proofs.cached_cies.fde_with_cached_cies.Goals as goal

pub returns-clause-found : goal.returns-clause-found
returns-clause-found g c =
    let position = g.R.Reader.position in
    let number = g.R.Offset.ReaderOffset.number in
    let view = g.S._UnwindSectionPrivate.view in
    chosen_by _ _ _ _ _ _ (λ cache. IsCacheOf position number (view c.args.section.now) c.args.bases.now cache.0.now)
    _ _ _ _ (c.new-cache.ensures (view c.args.section.now) c.args.bases.now) c.fde_for_address.ensures.scan.1
    (λ f asked answer h holds call. own position number view c.args.section.now call.shown_section.now c.args.bases.now call.shown_bases.now call.at_section call.at_bases f.0.now h.0.now (number (g.S.Offset.UnwindOffset.offset asked)) answer call.call.met.1 holds)

pub returns-clause-cie_part : goal.returns-clause-cie_part
returns-clause-cie_part g c =
    let position = g.R.Reader.position in
    let number = g.R.Offset.ReaderOffset.number in
    let view = g.S._UnwindSectionPrivate.view in
    ok_answered_by _ _ _ (λ fde. fde.cie) (λ cache. IsCacheOf position number (view c.args.section.now) c.args.bases.now cache.0.now)
    (λ cie. IsOf (position cie.initial_instructions) (view c.args.section.now).position) _ (c.new-cache.ensures (view c.args.section.now) c.args.bases.now) _ c.fde_for_address.ensures.cie
    (λ f asked answer h holds call. part position number view c.args.section.now call.shown_section.now c.args.bases.now call.shown_bases.now call.at_section call.at_bases f.0.now h.0.now (number (g.S.Offset.UnwindOffset.offset asked)) answer call.call.met.1 holds)
