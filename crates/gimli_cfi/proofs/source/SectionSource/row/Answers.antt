use Rattle.std.proofs.Common.{Some, ap, ◌∙◌}
use Rattle.cfi_read_core.specs.ByteOrder.{is_big}
use Rattle.cfi_read_core.specs.SliceReaders.{slice_position}
use Rattle.gimli_cfi.specs.HeaderViews.{unparsed_view}
use Rattle.gimli_cfi.specs.SectionSources.{source_view}
use Rattle.gimli_cfi.proofs.SourceSections.{by_header, same_rows}
use Rattle.gimli_cfi.proofs.source.SectionSource.row.Goals as goal

pub returns-clause-row : goal.returns-clause-row
returns-clause-row g c =
    by_header _ _ _ (source_view c.args.self.now) _ _ _ _ c.eh_frame.ensures
    (ap (λ size. Some (unparsed_view (slice_position is_big) c.in-Some.header size c.args.self.now.bases)) c.bytes-size.ensures ∙ c.in-Some.ensures)
    (rw (← same_rows (λ row. row.now) c.row_by_header.result) c.row_by_header.ensures.row)
