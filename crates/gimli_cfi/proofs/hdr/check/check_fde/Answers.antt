use Rattle.std.proofs.Common.{◌≡◌, ◌≢◌, Ok, Err, ap, sym, ◌∙◌, rules}
use Rattle.cfi_unwind.specs.FdeViews.{fde_view}
use Rattle.gimli_cfi.specs.BoundaryRows.{AreRising, IsBoundaryRow}
use Rattle.gimli_cfi.specs.EhFrameHdr.{start_of}
use Rattle.gimli_cfi.specs.HeaderViews.{header_section_view, table_view}
use Rattle.gimli_cfi.proofs.Reasons.{never_refused, no_row_by_start, no_row_by_target, start_for_fde, target_for_fde}
use Rattle.gimli_cfi.proofs.StartCounts.{by_search, by_start, by_next}
use Rattle.gimli_cfi.proofs.hdr.check.check_fde.Goals as goal

pub returns-in-Err-clause-reason : goal.returns-in-Err-clause-reason
returns-in-Err-clause-reason g c = never_refused _ _ _ c.requires.rising c.in-Err.ensures.refused

pub returns-in_err-start-clause-reason : goal.returns-in_err-start-clause-reason
returns-in_err-start-clause-reason g c =
    let gives : c.from_residual.result ≡ Err c.in_err-start.field-0.0 = search rules in
    let header = header_section_view g.R.Reader.position c.args.table.now.hdr.now c.args.bases.now in
    let refused = rw (c.search_starts.ensures.same, c.requires.answers) at c.in_err-start.ensures.refused in
    rw gives (start_for_fde header (table_view g.R.Reader.position c.args.table.now) c.args.eh_frame _ (fde_view g.R.Reader.position g.R.Offset.ReaderOffset.number c.args.fde.now) _ c.in-Ok.ensures.found.inside refused)

pub returns-in_err-target-clause-reason : goal.returns-in_err-target-clause-reason
returns-in_err-target-clause-reason g c =
    let gives : c.from_residual-in_err-target.result ≡ Err c.in_err-target.field-0.0 = search rules in
    let header = header_section_view g.R.Reader.position c.args.table.now.hdr.now c.args.bases.now in
    rw gives (target_for_fde header (table_view g.R.Reader.position c.args.table.now) c.args.eh_frame _ (fde_view g.R.Reader.position g.R.Offset.ReaderOffset.number c.args.fde.now) _ c.in-Ok.ensures.found.inside c.in_err-target.ensures.refused)

pub returns-in_err-next-clause-reason : goal.returns-in_err-next-clause-reason
returns-in_err-next-clause-reason g c =
    let gives : c.from_residual-in_err-next.result ≡ Err c.in_err-next.field-0.0 = search rules in
    let header = header_section_view g.R.Reader.position c.args.table.now.hdr.now c.args.bases.now in
    let refused = rw (c.start_at.ensures.same, c.search_starts.ensures.same, c.requires.answers) at c.in_err-next.ensures.refused in
    rw gives (start_for_fde header (table_view g.R.Reader.position c.args.table.now) c.args.eh_frame _ (fde_view g.R.Reader.position g.R.Offset.ReaderOffset.number c.args.fde.now) _ c.if-after-table.true refused)

pub returns-then-start-address-clause-reason : goal.returns-then-start-address-clause-reason
returns-then-start-address-clause-reason g c =
    let header = header_section_view g.R.Reader.position c.args.table.now.hdr.now c.args.bases.now in
    let table = table_view g.R.Reader.position c.args.table.now in
    let fde = fde_view g.R.Reader.position g.R.Offset.ReaderOffset.number c.args.fde.now in
    let initial : c.initial_address-address.result ≡ fde.initial = c.initial_address-address.ensures in
    let rising : AreRising (start_of header table) table.count = rw c.requires.answers at c.requires.rising in
    let boundary : IsBoundaryRow (start_of header table) table.count fde.initial c.in-Ok.row = rw (c.requires.answers, initial) at c.in-Ok.ensures.found in
    let is : start_of header table c.in-Ok.row ≡ Ok c.in_ok-start.start = ap (λ f. f c.in-Ok.row) (sym (c.in-Ok.ensures.same ∙ c.requires.answers)) ∙ c.in_ok-start.ensures.given in
    let differ : c.in_ok-start.start ≢ fde.initial = λ same. c.if-start-address.true (same ∙ sym initial) in
    (sym (c.into_u64-offset.ensures.value ∙ c.offset.ensures), sym initial, no_row_by_start header table c.args.eh_frame c.in-Ok.row c.in_ok-start.start fde rising boundary is differ)

pub returns-then-not-is_at-clause-reason : goal.returns-then-not-is_at-clause-reason
returns-then-not-is_at-clause-reason g c =
    let header = header_section_view g.R.Reader.position c.args.table.now.hdr.now c.args.bases.now in
    let table = table_view g.R.Reader.position c.args.table.now in
    let fde = fde_view g.R.Reader.position g.R.Offset.ReaderOffset.number c.args.fde.now in
    let initial : c.initial_address-address.result ≡ fde.initial = c.initial_address-address.ensures in
    let offset : c.into_u64-offset.result ≡ fde.offset = c.into_u64-offset.ensures.value ∙ c.offset.ensures in
    let rising : AreRising (start_of header table) table.count = rw c.requires.answers at c.requires.rising in
    let boundary : IsBoundaryRow (start_of header table) table.count fde.initial c.in-Ok.row = rw (c.requires.answers, initial) at c.in-Ok.ensures.found in
    let given : start_of header table c.in-Ok.row ≡ Ok c.in_ok-start.start = ap (λ f. f c.in-Ok.row) (sym (c.in-Ok.ensures.same ∙ c.requires.answers)) ∙ c.in_ok-start.ensures.given in
    let is : start_of header table c.in-Ok.row ≡ Ok fde.initial = given ∙ ap Ok (c.if-start-address.false ∙ initial) in
    let differ = rw offset at (c.is_at.ensures.no c.if-not-is_at.true) in
    (sym offset, sym initial, no_row_by_target header table c.args.eh_frame c.in-Ok.row c.in_ok-target.target fde rising boundary.inside is c.in_ok-target.ensures.given differ)

pub returns-in-Err-clause-calls : goal.returns-in-Err-clause-calls
returns-in-Err-clause-calls g c = by_search _ _ _ c.search_starts.ensures.calls

pub returns-in_err-start-clause-calls : goal.returns-in_err-start-clause-calls
returns-in_err-start-clause-calls g c = by_start _ _ _ c.search_starts.ensures.calls _ c.start_at.ensures.calls

pub returns-then-start-address-clause-calls : goal.returns-then-start-address-clause-calls
returns-then-start-address-clause-calls g c = by_start _ _ _ c.search_starts.ensures.calls _ c.start_at.ensures.calls

pub returns-in_err-target-clause-calls : goal.returns-in_err-target-clause-calls
returns-in_err-target-clause-calls g c = by_start _ _ _ c.search_starts.ensures.calls _ c.start_at.ensures.calls

pub returns-then-not-is_at-clause-calls : goal.returns-then-not-is_at-clause-calls
returns-then-not-is_at-clause-calls g c = by_start _ _ _ c.search_starts.ensures.calls _ c.start_at.ensures.calls

pub returns-else-after-table-clause-calls : goal.returns-else-after-table-clause-calls
returns-else-after-table-clause-calls g c = by_start _ _ _ c.search_starts.ensures.calls _ c.start_at.ensures.calls

pub returns-in_err-next-clause-calls : goal.returns-in_err-next-clause-calls
returns-in_err-next-clause-calls g c = by_next _ _ _ c.search_starts.ensures.calls _ _ c.start_at.ensures.calls c.start_at-then-after-table.ensures.calls

pub returns-then-next-end-clause-calls : goal.returns-then-next-end-clause-calls
returns-then-next-end-clause-calls g c = by_next _ _ _ c.search_starts.ensures.calls _ _ c.start_at.ensures.calls c.start_at-then-after-table.ensures.calls

pub returns-else-next-end-clause-calls : goal.returns-else-next-end-clause-calls
returns-else-next-end-clause-calls g c = by_next _ _ _ c.search_starts.ensures.calls _ _ c.start_at.ensures.calls c.start_at-then-after-table.ensures.calls
