use Rattle.std.proofs.Common.{◌∙◌, ap, Some, sym}
use Rattle.gimli_cfi.specs.HeaderViews.{rows_view}
use Rattle.gimli_cfi.proofs.HeaderParts.{no_rows, some_rows}
use Rattle.gimli_cfi.proofs.hdr.header.ParsedEhFrameHdr.table.Goals as goal

pub returns-then-self-eq0-clause-rows : goal.returns-then-self-eq0-clause-rows
returns-then-self-eq0-clause-rows g c = sym (no_rows _ _ _ c.if-self-eq0.true)

pub returns-else-self-eq0-clause-rows : goal.returns-else-self-eq0-clause-rows
returns-else-self-eq0-clause-rows g c =
    ap (λ h. Some (rows_view g.R.Reader.position h)) c.new.ensures ∙ sym (some_rows _ _ _ c.if-self-eq0.false)
