use Rattle.gimli_cfi.specs.Words.{IsCacheOf, IsOf}
use Rattle.gimli_cfi.proofs.Callers.{ok_answered_by}
use Rattle.gimli_cfi.specs.Words.{eh_frame_view}
use Rattle.cfi_guide.proofs.CachedCalls.{part}
use Rattle.cfi_guide.proofs.cached_cies.fde_by_table_with_cached_cies.Goals as goal

pub returns-clause-cie_part : goal.returns-clause-cie_part
returns-clause-cie_part g c =
    ok_answered_by _ _ _ (λ fde. fde.cie) (λ cache. IsCacheOf g.R.Reader.position g.R.Offset.ReaderOffset.number (eh_frame_view g.R.Reader.position c.args.frame.now) c.args.bases.now cache.0.now)
    (λ cie. IsOf (g.R.Reader.position cie.initial_instructions) (g.R.Reader.position c.args.frame.now.section)) _ (c.new-cache.ensures (eh_frame_view g.R.Reader.position c.args.frame.now) c.args.bases.now) _ c.fde_for_address.ensures.cie
    (λ f asked answer h holds call. part g.R.Reader.position g.R.Offset.ReaderOffset.number (eh_frame_view g.R.Reader.position) c.args.frame.now call.shown_section.now c.args.bases.now call.shown_bases.now call.at_section call.at_bases f.0.now h.0.now (g.R.Offset.ReaderOffset.number asked.0) answer call.call.met.1.1 holds)
