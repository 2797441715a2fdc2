use Rattle.gimli_cfi.specs.HeaderViews.{header_section_view}
use Rattle.gimli_cfi.proofs.HeaderParts.{all_rows}
use Rattle.gimli_cfi.proofs.hdr.iter.EhHdrTableIter.new.Goals as goal

pub returns : goal.returns
returns g c =
    let hdr = c.args.hdr.now in
    record { all = all_rows (header_section_view g.R.Reader.position hdr c.args.bases.now) hdr.table_enc.0 hdr.fde_count (g.R.Reader.position hdr.table) hdr.of_section.source }
