use Rattle.std.proofs.Common.{◌∙◌, ap}
use Rattle.cfi_entry.specs.Sections.{section_of}
use Rattle.cfi_entry.specs.Entries.{cie_at}
use Rattle.cfi_unwind.proofs.unwind_section.UnwindSection.cie_from_offset.Goals as goal

pub returns : goal.returns
returns g c = record {
  read = c.cie_at.ensures.read ∙ ap (λ o. cie_at (section_of (g.Self._UnwindSectionPrivate.view c.args.self.now) c.args.bases.now) (g.R.Offset.ReaderOffset.number o)) c.into.ensures;
  part = c.cie_at.ensures.part;
}
