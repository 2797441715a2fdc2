use Rattle.std.proofs.Common.{◌∙◌, ap, length}
use Rattle.gimli_cfi.proofs.RowWalk.{as_many}
use Rattle.gimli_cfi.specs.HeaderRows.{Walk, rows_left}
use Rattle.gimli_cfi.proofs.hdr.table.EhHdrTable.iter.Goals as goal

pub returns-clause-many : goal.returns-clause-many
returns-clause-many g c = ap (λ (w : Walk). length (rows_left w)) c.new.ensures.all ∙ as_many _ _ c.args.self.now.hdr.now.fde_count _ _
