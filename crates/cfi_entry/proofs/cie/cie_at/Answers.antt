use Rattle.std.proofs.Common.{◌∙◌, Err, ap}
use Rattle.cfi_read_core.specs.declared.error.Error.TheVariants.{NotCieId}
use Rattle.cfi_entry.proofs.EntryKinds.{by_kind, cie_found, no_cie_found}
use Rattle.cfi_entry.specs.EntryViews.{prefix_view, section_in}
use Rattle.cfi_entry.proofs.cie.cie_at.Goals as goal

pub returns-then-is_cie : goal.returns-then-is_cie
returns-then-is_cie g c =
    let section = section_in g.S._UnwindSectionPrivate.view c.args.at.now in
    let found = prefix_view g.R.Reader.position g.R.Offset.ReaderOffset.number c.in_ok-found.found in
    let is = by_kind section found (g.met.S._UnwindSectionPrivate.kind c.args.at.now.section) c.is_cie.ensures c.if-is_cie.true in
    record {
      read = cie_found section found (g.R.Offset.ReaderOffset.number c.args.offset) c.in_ok-found.ensures.read is c.read_cie.ensures.read;
      part = c.read_cie.ensures.part;
    }

pub returns-else-is_cie : goal.returns-else-is_cie
returns-else-is_cie g c =
    let section = section_in g.S._UnwindSectionPrivate.view c.args.at.now in
    let found = prefix_view g.R.Reader.position g.R.Offset.ReaderOffset.number c.in_ok-found.found in
    let is = by_kind section found (g.met.S._UnwindSectionPrivate.kind c.args.at.now.section) c.is_cie.ensures c.if-is_cie.false in
    record {
      read = ap (λ n. Err (NotCieId n)) c.into_u64.ensures.value ∙ no_cie_found section found (g.R.Offset.ReaderOffset.number c.args.offset) c.in_ok-found.ensures.read is;
      part = tt;
    }
