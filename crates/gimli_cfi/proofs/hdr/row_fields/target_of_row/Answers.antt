use Rattle.std.proofs.Common.{refl, ◌∙◌, sym}
use Rattle.gimli_cfi.specs.HeaderViews.{rows_view, header_section_view}
use Rattle.gimli_cfi.proofs.RowReads.{target_given, with_itself}
use Rattle.gimli_cfi.proofs.hdr.row_fields.target_of_row.Goals as goal

pub returns : goal.returns
returns g c =
    sym (target_given (header_section_view g.R.Reader.position c.args.hdr.now c.args.bases.now) (rows_view g.R.Reader.position c.args.hdr.now) c.args.size c.args.index c.requires (g.R.Reader.position c.args.hdr.now.table) c.args.hdr.now.of_section.source refl _ _ c.read_field.ensures.0 ∙ with_itself _)
