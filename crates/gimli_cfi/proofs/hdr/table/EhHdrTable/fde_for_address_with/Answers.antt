use Rattle.std.proofs.Common.{◌≡◌, Err, ap, refl, rules}
use Rattle.cfi_read_core.specs.ReaderCalls.{map_ok}
use Rattle.cfi_unwind.specs.FdeViews.{fde_view}
use Rattle.gimli_cfi.proofs.hdr.table.EhHdrTable.fde_for_address_with.Goals as goal

pub returns-in_err-target-clause-found : goal.returns-in_err-target-clause-found
returns-in_err-target-clause-found g c =
    let gives : c.from_residual.result ≡ Err c.in_err-target.field-0.0 = search rules in
    record {
      target = Err c.in_err-target.field-0.0;
      searched = c.in_err-target.ensures.found;
      read = (ap (map_ok (fde_view g.R.Reader.position g.R.Offset.ReaderOffset.number)) gives, refl);
    }
