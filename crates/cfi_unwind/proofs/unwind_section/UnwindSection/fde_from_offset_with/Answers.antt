use Rattle.std.proofs.Common.{◌≡◌, Err, ap, refl, rules, sym}
use Rattle.cfi_read_core.specs.ReaderCalls.{map_ok}
use Rattle.cfi_unwind.specs.FdeViews.{fde_view}
use Rattle.cfi_unwind.proofs.unwind_section.UnwindSection.fde_from_offset_with.Goals as goal

pub returns-in_err-partial-clause-read : goal.returns-in_err-partial-clause-read
returns-in_err-partial-clause-read g c =
    let gives : c.from_residual.result ≡ Err c.in_err-partial.field-0.0 = search rules in
    rw (sym c.in_err-partial.ensures.read) (ap (map_ok (fde_view g.R.Reader.position g.R.Offset.ReaderOffset.number)) gives, refl)

pub returns-clause-read : goal.returns-clause-read
returns-clause-read g c =
    let same_section_and_bases = c.in_ok-partial.ensures.same_section_and_bases in
    rw (sym c.in_ok-partial.ensures.read) (rw (same_section_and_bases.0, same_section_and_bases.1) at c.parse_with.ensures.read)
