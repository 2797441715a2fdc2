use Rattle.cfi_programs.specs.Input.{bytes_of_sections}
use Rattle.cfi_programs.proofs.RowsAnswerLemmas.{answered}
use Rattle.cfi_programs.proofs.rows.row_lookup.find_row.Goals as goal

pub returns : goal.returns
returns g c =
    answered c.args.request.now (bytes_of_sections c.args.sections.now) _ _ _ _ _ c.source-source.ensures c.as_slice.ensures.value c.as_slice-header.ensures.value c.row.ensures.row
