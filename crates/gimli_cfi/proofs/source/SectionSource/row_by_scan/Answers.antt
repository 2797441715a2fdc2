use Rattle.gimli_cfi.proofs.SourceSections.{same_rows, scanned}
use Rattle.gimli_cfi.proofs.source.SectionSource.row_by_scan.Goals as goal

pub returns-in-DebugFrame-clause-row : goal.returns-in-DebugFrame-clause-row
returns-in-DebugFrame-clause-row g c =
    scanned _ _ _ _ _ _ _ c.in-DebugFrame.ensures (rw (← same_rows (λ row. row.now) c.row_by_scan.result) c.row_by_scan.ensures.row)

pub returns-in-EhFrame-clause-row : goal.returns-in-EhFrame-clause-row
returns-in-EhFrame-clause-row g c =
    scanned _ _ _ _ _ _ _ c.in-EhFrame.ensures (rw (← same_rows (λ row. row.now) c.row_by_scan-in-EhFrame.result) c.row_by_scan-in-EhFrame.ensures.row)
