use Rattle.std.proofs.Common.{◌≡◌, Err, ap, inl, rules}
use Rattle.cfi_read_core.specs.ReaderCalls.{map_ok}
use Rattle.cfi_entry.specs.Sections.{section_of}
use Rattle.gimli_cfi.proofs.TableRows.{by_scan}
use Rattle.gimli_cfi.proofs.by_scan.row_by_scan.Goals as goal

pub returns-in_err-fde-clause-row : goal.returns-in_err-fde-clause-row
returns-in_err-fde-clause-row g c =
    let gives : c.from_residual.result ≡ Err c.in_err-fde.field-0.0 = search rules in
    by_scan _ _ _ (section_of (g.Section._UnwindSectionPrivate.view c.args.section.now) c.args.bases.now) c.args.address _ _ c.in_err-fde.ensures.scan (inl (ap (map_ok _) gives))

pub returns-clause-row : goal.returns-clause-row
returns-clause-row g c =
    by_scan _ _ _ (section_of (g.Section._UnwindSectionPrivate.view c.args.section.now) c.args.bases.now) c.args.address _ _ c.in_ok-fde.ensures.scan c.unwind_info_for_address.ensures.row

pub returns-clause-contains : goal.returns-clause-contains
returns-clause-contains g c = c.unwind_info_for_address.ensures.contains

pub returns-clause-expressions : goal.returns-clause-expressions
returns-clause-expressions g c = c.unwind_info_for_address.ensures.expressions
