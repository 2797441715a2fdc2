use Rattle.std.proofs.Common.{◌≡◌, Err, refl, ◌∙◌, rules, sym}
use Rattle.gimli_cfi.specs.HeaderViews.{rows_view, header_section_view}
use Rattle.gimli_cfi.proofs.RowReads.{start_refused, start_given}
use Rattle.gimli_cfi.proofs.hdr.row_fields.start_of_row.Goals as goal

pub returns-in_err-read_field : goal.returns-in_err-read_field
returns-in_err-read_field g c =
    let gives : c.from_residual.result ≡ Err c.in_err-read_field.field-0.0 = search rules in
    gives ∙ sym (start_refused (header_section_view g.R.Reader.position c.args.hdr.now c.args.bases.now) (rows_view g.R.Reader.position c.args.hdr.now) c.args.size c.args.index c.requires.searchable (g.R.Reader.position c.args.hdr.now.table) c.args.hdr.now.of_section.source refl _ _ c.in_err-read_field.ensures.0)

pub returns : goal.returns
returns g c =
    c.direct.ensures ∙ sym (start_given (header_section_view g.R.Reader.position c.args.hdr.now c.args.bases.now) (rows_view g.R.Reader.position c.args.hdr.now) c.args.size c.args.index c.requires.searchable (g.R.Reader.position c.args.hdr.now.table) c.args.hdr.now.of_section.source refl _ _ c.in_ok-read_field.ensures.0)
