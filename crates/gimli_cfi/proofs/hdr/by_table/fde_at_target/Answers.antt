use Rattle.std.proofs.Common.{◌≡◌, Err, ap, rules, sym, ◌∙◌}
use Rattle.cfi_read_core.specs.ReaderCalls.{map_ok}
use Rattle.cfi_unwind.specs.FdeViews.{fde_view}
use Rattle.gimli_cfi.proofs.Agreement.{covers-true}
use Rattle.gimli_cfi.proofs.TableFinds.{at_refused, at_read, covering_ok, covering_not}
use Rattle.gimli_cfi.proofs.hdr.by_table.fde_at_target.Goals as goal

pub returns-in_err-offset-clause-read : goal.returns-in_err-offset-clause-read
returns-in_err-offset-clause-read g c =
    let gives : c.from_residual.result ≡ Err c.in_err-offset.field-0.0 = search rules in
    at_refused _ _ _ _ c.in_err-offset.field-0.0 c.args.get_cie.now _ (sym c.in_err-offset.ensures) (ap (map_ok (fde_view g.R.Reader.position g.R.Offset.ReaderOffset.number)) gives)

pub returns-in_err-fde-clause-read : goal.returns-in_err-fde-clause-read
returns-in_err-fde-clause-read g c =
    let gives : c.from_residual-in_err-fde.result ≡ Err c.in_err-fde.field-0.0 = search rules in
    at_read _ _ _ _ _ _ _ _ _ (sym c.in_ok-offset.ensures) c.in_err-fde.ensures.read (ap (map_ok (fde_view g.R.Reader.position g.R.Offset.ReaderOffset.number)) gives)

pub returns-then-contains-clause-read : goal.returns-then-contains-clause-read
returns-then-contains-clause-read g c =
    at_read _ _ _ _ _ _ _ _ _ (sym c.in_ok-offset.ensures) c.in_ok-fde.ensures.read (sym (covering_ok c.args.address (fde_view g.R.Reader.position g.R.Offset.ReaderOffset.number c.in_ok-fde.fde) (sym c.contains.ensures ∙ c.if-contains.true)))

pub returns-else-contains-clause-read : goal.returns-else-contains-clause-read
returns-else-contains-clause-read g c =
    at_read _ _ _ _ _ _ _ _ _ (sym c.in_ok-offset.ensures) c.in_ok-fde.ensures.read (sym (covering_not c.args.address (fde_view g.R.Reader.position g.R.Offset.ReaderOffset.number c.in_ok-fde.fde) (sym c.contains.ensures ∙ c.if-contains.false)))

pub returns-then-contains-clause-contains : goal.returns-then-contains-clause-contains
returns-then-contains-clause-contains g c =
    covers-true (fde_view g.R.Reader.position g.R.Offset.ReaderOffset.number c.in_ok-fde.fde) c.args.address (sym c.contains.ensures ∙ c.if-contains.true)
