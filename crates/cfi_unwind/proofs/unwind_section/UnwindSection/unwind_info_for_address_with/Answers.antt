use Rattle.std.proofs.Common.{◌≡◌, Err, Ok, refl, inl, rules}
use Rattle.cfi_unwind.specs.FdeViews.{fde_view}
use Rattle.cfi_unwind.proofs.unwind_section.UnwindSection.unwind_info_for_address_with.Goals as goal

pub returns-in_err-fde : goal.returns-in_err-fde
returns-in_err-fde g c =
    let gives : c.from_residual.result ≡ Err c.in_err-fde.field-0.0 = search rules in
    rw gives (record { row = (Err c.in_err-fde.field-0.0, c.in_err-fde.ensures.scan, inl refl); contains = tt; expressions = tt })

pub returns : goal.returns
returns g c =
    let row = c.unwind_info_for_address.ensures in
    record { row = (Ok (fde_view g.R.Reader.position g.R.Offset.ReaderOffset.number c.in_ok-fde.fde), c.in_ok-fde.ensures.scan, row.row); contains = row.contains; expressions = row.expressions }
