use Rattle.std.proofs.Common.{◌≡◌, Err, ◌∙◌, refl, rules, sym}
use Rattle.gimli_cfi.specs.EhFrameHdr.{value_size}
use Rattle.gimli_cfi.specs.HeaderViews.{table_view}
use Rattle.gimli_cfi.proofs.Searches.{by_format, by_refusal, by_row, looked_up_format, looked_up_found, not_none, reads_format, reads_searched}
use Rattle.gimli_cfi.proofs.hdr.table.EhHdrTable.lookup_in.Goals as goal

pub returns-in_err-size-clause-found : goal.returns-in_err-size-clause-found
returns-in_err-size-clause-found g c =
    let gives : c.from_residual.result ≡ Err c.in_err-size.field-0.0 = search rules in
    rw gives (by_format (value_size c.args.self.now.hdr.now.table_enc.0) _ (table_view g.R.Reader.position c.args.self.now) _ _ _ c.in_err-size.ensures)

pub returns-in_err-row-clause-found : goal.returns-in_err-row-clause-found
returns-in_err-row-clause-found g c =
    let gives : c.from_residual-in_err-row.result ≡ Err c.in_err-row.field-0.0 = search rules in
    rw gives (by_refusal (value_size c.args.self.now.hdr.now.table_enc.0) c.in_ok-size.size _ _ _ (table_view g.R.Reader.position c.args.self.now) _ _
    (sym c.searchable_size.ensures ∙ c.in_ok-size.was) c.in_err-row.ensures.refused)

pub returns-in_err-row-clause-not_asked : goal.returns-in_err-row-clause-not_asked
returns-in_err-row-clause-not_asked g c = λ none.
    absurd (not_none (value_size c.args.self.now.hdr.now.table_enc.0) c.in_ok-size.size _ (sym c.searchable_size.ensures ∙ c.in_ok-size.was) none)

pub returns-clause-found : goal.returns-clause-found
returns-clause-found g c =
    by_row (value_size c.args.self.now.hdr.now.table_enc.0) c.in_ok-size.size _ _ _ _ _ _ c.in_ok-row.row (sym c.searchable_size.ensures ∙ c.in_ok-size.was) c.in_ok-row.ensures.found c.target_of_row.ensures

pub returns-clause-not_asked : goal.returns-clause-not_asked
returns-clause-not_asked g c = λ none.
    absurd (not_none (value_size c.args.self.now.hdr.now.table_enc.0) c.in_ok-size.size _ (sym c.searchable_size.ensures ∙ c.in_ok-size.was) none)

pub returns-in_err-size-clause-searched : goal.returns-in_err-size-clause-searched
returns-in_err-size-clause-searched g c =
    let gives : c.from_residual.result ≡ Err c.in_err-size.field-0.0 = search rules in
    rw gives (looked_up_format (value_size c.args.self.now.hdr.now.table_enc.0) (table_view g.R.Reader.position c.args.self.now) _ _ _ c.in_err-size.ensures)

pub returns-in_err-row-clause-searched : goal.returns-in_err-row-clause-searched
returns-in_err-row-clause-searched g c =
    let gives : c.from_residual-in_err-row.result ≡ Err c.in_err-row.field-0.0 = search rules in
    rw gives (looked_up_found (value_size c.args.self.now.hdr.now.table_enc.0) c.in_ok-size.size _ (table_view g.R.Reader.position c.args.self.now) _ _ _ _
    (sym c.searchable_size.ensures ∙ c.in_ok-size.was) c.in_err-row.ensures.searched refl)

pub returns-clause-searched : goal.returns-clause-searched
returns-clause-searched g c =
    looked_up_found (value_size c.args.self.now.hdr.now.table_enc.0) c.in_ok-size.size _ (table_view g.R.Reader.position c.args.self.now) _ _ _ _
    (sym c.searchable_size.ensures ∙ c.in_ok-size.was) c.in_ok-row.ensures.searched c.target_of_row.ensures

pub returns-in_err-size-clause-made : goal.returns-in_err-size-clause-made
returns-in_err-size-clause-made g c = reads_format (value_size c.args.self.now.hdr.now.table_enc.0) _ _ _ _ c.in_err-size.ensures

pub returns-in_err-row-clause-made : goal.returns-in_err-row-clause-made
returns-in_err-row-clause-made g c =
    reads_searched (value_size c.args.self.now.hdr.now.table_enc.0) c.in_ok-size.size _ _ _ _ (sym c.searchable_size.ensures ∙ c.in_ok-size.was) c.in_err-row.ensures.made

pub returns-clause-made : goal.returns-clause-made
returns-clause-made g c =
    reads_searched (value_size c.args.self.now.hdr.now.table_enc.0) c.in_ok-size.size _ _ _ _ (sym c.searchable_size.ensures ∙ c.in_ok-size.was) c.in_ok-row.ensures.made
