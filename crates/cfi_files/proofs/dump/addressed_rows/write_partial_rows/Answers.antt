use Rattle.std.proofs.Common.{◌≡◌, Ok, Err}
use Rattle.cfi_unwind.specs.FdeViews.{fde_view}
use Rattle.cfi_unwind.specs.WalkViews.{partial_of}
use Rattle.cfi_unwind.specs.Scan.{read_fde}
use Rattle.cfi_entry.specs.Sections.{section_of}
use Rattle.cfi_files.proofs.EntryRowsSent.{as_read}
use Rattle.cfi_files.proofs.dump.addressed_rows.write_partial_rows.Goals as goal

pub returns-in-Ok-clause-written : goal.returns-in-Ok-clause-written
returns-in-Ok-clause-written g c =
    let section = section_of (g.S._UnwindSectionPrivate.view c.args.at.now.section) c.args.at.now.bases.now in
    let found = partial_of g.R.Reader.position (λ n. n) c.args.partial.now.prefix c.args.partial.now.cie_offset in
    let read : Ok (fde_view g.R.Reader.position (λ n. n) c.in-Ok.fde) ≡ read_fde section found = c.in-Ok.ensures.read in
    as_read _ _ _ _ c.write_if_asked_for.result c.args.style c.args.asked section found _ read c.write_if_asked_for.ensures

pub returns-in-Err-clause-written : goal.returns-in-Err-clause-written
returns-in-Err-clause-written g c =
    let section = section_of (g.S._UnwindSectionPrivate.view c.args.at.now.section) c.args.at.now.bases.now in
    let found = partial_of g.R.Reader.position (λ n. n) c.args.partial.now.prefix c.args.partial.now.cie_offset in
    let read : Err c.in-Err.error ≡ read_fde section found = c.in-Err.ensures.read in
    as_read _ _ _ _ c.write_refused.result c.args.style c.args.asked section found _ read c.write_refused.ensures
