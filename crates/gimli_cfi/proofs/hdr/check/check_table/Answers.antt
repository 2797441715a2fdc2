use Rattle.std.proofs.Common.{◌≡◌, Result, Ok, Err, sym, subst, ◌∙◌, rules}
use Rattle.std.specs.Prelude.{IsErrAnd, MatchResult}
use Rattle.cfi_parts.specs.declared.pointer.Pointer.TheVariants.{Direct}
use Rattle.cfi_unwind.proofs.ScanSteps.{if_ok}
use Rattle.gimli_cfi.specs.BoundaryRows.{AreRising}
use Rattle.gimli_cfi.specs.TableCheck.{IsReasonOfStarts}
use Rattle.gimli_cfi.specs.EhFrameHdr.{start_of, value_size}
use Rattle.gimli_cfi.specs.HeaderViews.{listing_view}
use Rattle.gimli_cfi.proofs.Faithful.{faithful}
use Rattle.gimli_cfi.proofs.Reasons.{not_faithful, reason_of_starts, reason_of_fdes, direct_at, some_of, if_err}
use Rattle.gimli_cfi.proofs.StartCounts.{none_yet, by_rows, by_fdes}
use Rattle.gimli_cfi.proofs.hdr.check.check_table.Goals as goal

-- a value whose error alone was mapped was there before
ok_before : {A E D : Type 0} (P : E → D → Type 0) (given : Result A E) (mapped : Result A D) (a : A)
    → MatchResult given (λ x. mapped ≡ Ok x) (λ e. IsErrAnd mapped (P e)) → mapped ≡ Ok a → Ok a ≡ given
ok_before {A} {E} {D} P (Ok x) mapped a same is = let both : ◌≡◌ {A = Result A D} (Ok a) (Ok x) = sym is ∙ same in cc
ok_before {A} {E} {D} P (Err e) mapped a refused is = absurd (subst (λ r. IsErrAnd r (P e)) is refused)

pub returns-in_err-check_starts-clause-unfaithful : goal.returns-in_err-check_starts-clause-unfaithful
returns-in_err-check_starts-clause-unfaithful g c =
    let gives : c.from_residual-in_err-check_starts.result ≡ Err c.in_err-check_starts.field-0.0 = search rules in
    let l = listing_view g.R.Reader.position c.args.table.now c.args.frame.now c.args.bases.now in
    let why : IsReasonOfStarts (start_of l.header l.table) l.table.count c.in_err-check_starts.field-0.0 = rw c.requires at c.in_err-check_starts.ensures.reason in
    rw gives (not_faithful l c.in_err-check_starts.field-0.0 (reason_of_starts l c.in_err-check_starts.field-0.0 why))

pub returns-clause-faithful : goal.returns-clause-faithful
returns-clause-faithful g c =
    let l = listing_view g.R.Reader.position c.args.table.now c.args.frame.now c.args.bases.now in
    let at : l.eh_frame ≡ Direct c.in_ok-eh_frame.eh_frame = direct_at l.eh_frame c.in_ok-eh_frame.eh_frame (ok_before _ c.direct.result c.map_err.result _ c.map_err.ensures.cases c.in_ok-eh_frame.was ∙ c.direct.ensures) in
    let rising : AreRising (start_of l.header l.table) l.table.count = rw c.requires at c.in_ok-check_starts.ensures.rising in
    if_ok c.check_fdes.result (λ done listed. (c.in_ok-eh_frame.eh_frame, at, faithful l.header l.table c.in_ok-eh_frame.eh_frame l.section rising listed (some_of (value_size l.table.encoding) c.in_ok-size.size _ (ok_before _ c.searchable_size.result c.map_err-2.result _ c.map_err-2.ensures.cases c.in_ok-size.was ∙ c.searchable_size.ensures))))
    c.check_fdes.ensures.listed

pub returns-clause-reason : goal.returns-clause-reason
returns-clause-reason g c =
    let l = listing_view g.R.Reader.position c.args.table.now c.args.frame.now c.args.bases.now in
    let at : l.eh_frame ≡ Direct c.in_ok-eh_frame.eh_frame = direct_at l.eh_frame c.in_ok-eh_frame.eh_frame (ok_before _ c.direct.result c.map_err.result _ c.map_err.ensures.cases c.in_ok-eh_frame.was ∙ c.direct.ensures) in
    if_err c.check_fdes.result (λ reason why. reason_of_fdes l c.in_ok-eh_frame.eh_frame reason at why) c.check_fdes.ensures.reason

pub returns-clause-unfaithful : goal.returns-clause-unfaithful
returns-clause-unfaithful g c =
    let l = listing_view g.R.Reader.position c.args.table.now c.args.frame.now c.args.bases.now in
    let at : l.eh_frame ≡ Direct c.in_ok-eh_frame.eh_frame = direct_at l.eh_frame c.in_ok-eh_frame.eh_frame (ok_before _ c.direct.result c.map_err.result _ c.map_err.ensures.cases c.in_ok-eh_frame.was ∙ c.direct.ensures) in
    if_err c.check_fdes.result (λ reason why. not_faithful l reason (reason_of_fdes l c.in_ok-eh_frame.eh_frame reason at why)) c.check_fdes.ensures.reason

pub returns-in_err-eh_frame-clause-calls : goal.returns-in_err-eh_frame-clause-calls
returns-in_err-eh_frame-clause-calls g c = none_yet _ _

pub returns-in_err-size-clause-calls : goal.returns-in_err-size-clause-calls
returns-in_err-size-clause-calls g c = none_yet _ _

pub returns-in_err-check_starts-clause-calls : goal.returns-in_err-check_starts-clause-calls
returns-in_err-check_starts-clause-calls g c = by_rows _ _ _ _ c.check_starts.ensures.calls

pub returns-clause-calls : goal.returns-clause-calls
returns-clause-calls g c = by_fdes _ _ _ _ c.check_starts.ensures.calls _ c.check_fdes.ensures.calls
