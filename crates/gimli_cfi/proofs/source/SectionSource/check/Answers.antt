use Rattle.std.proofs.Common.{Some, ap, ◌∙◌}
use Rattle.cfi_read_core.specs.ByteOrder.{is_big}
use Rattle.cfi_read_core.specs.SliceReaders.{slice_position}
use Rattle.gimli_cfi.specs.HeaderViews.{unparsed_view}
use Rattle.gimli_cfi.specs.SectionSources.{source_view}
use Rattle.gimli_cfi.proofs.CheckVerdictLemmas.{no_verdict, verdict_of}
use Rattle.gimli_cfi.proofs.source.SectionSource.check.Goals as goal

pub returns-in_err-header : goal.returns-in_err-header
returns-in_err-header c = rw c.from_residual.ensures (no_verdict (source_view c.args.self.now) c.in_err-header.ensures)

pub returns : goal.returns
returns c =
    verdict_of (source_view c.args.self.now) _ _ c.check_by_header.result c.eh_frame.ensures
    (ap (λ size. Some (unparsed_view (slice_position is_big) c.in_ok-header.header size c.args.self.now.bases)) c.bytes-size.ensures ∙ c.in_ok-header.ensures)
    c.check_by_header.ensures
