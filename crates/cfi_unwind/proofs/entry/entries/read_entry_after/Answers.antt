use Rattle.cfi_entry.proofs.EntryKinds.{by_kind, cie_entry, fde_entry}
use Rattle.cfi_entry.specs.EntryViews.{prefix_view, section_in}
use Rattle.cfi_unwind.proofs.entry.entries.read_entry_after.Goals as goal

pub returns-in_ok-read_cie : goal.returns-in_ok-read_cie
returns-in_ok-read_cie g c =
    let section = section_in g.S._UnwindSectionPrivate.view c.args.at.now in
    let found = prefix_view g.R.Reader.position g.R.Offset.ReaderOffset.number c.args.found in
    let is = by_kind section found (g.met.S._UnwindSectionPrivate.kind c.args.at.now.section) c.is_cie.ensures c.if-is_cie.true in
    record { read = cie_entry section found _ is c.in_ok-read_cie.ensures.read; same_section_and_bases = c.in_ok-read_cie.ensures.part }

pub returns-in_ok-read_partial_fde : goal.returns-in_ok-read_partial_fde
returns-in_ok-read_partial_fde g c =
    let section = section_in g.S._UnwindSectionPrivate.view c.args.at.now in
    let found = prefix_view g.R.Reader.position g.R.Offset.ReaderOffset.number c.args.found in
    let is = by_kind section found (g.met.S._UnwindSectionPrivate.kind c.args.at.now.section) c.is_cie.ensures c.if-is_cie.false in
    record { read = fde_entry section found _ is c.in_ok-read_partial_fde.ensures.read; same_section_and_bases = c.in_ok-read_partial_fde.ensures.same_section_and_bases }
