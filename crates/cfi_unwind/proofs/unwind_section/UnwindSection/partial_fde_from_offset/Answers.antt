use Rattle.std.proofs.Common.{◌∙◌, ap}
use Rattle.cfi_entry.specs.Sections.{section_of}
use Rattle.cfi_entry.specs.Entries.{partial_fde_at}
use Rattle.cfi_unwind.proofs.unwind_section.UnwindSection.partial_fde_from_offset.Goals as goal

pub returns : goal.returns
returns g c = record {
  read = c.partial_fde_at.ensures.read ∙ ap (λ o. partial_fde_at (section_of (g.Self._UnwindSectionPrivate.view c.args.self.now) c.args.bases.now) (g.R.Offset.ReaderOffset.number o)) c.into.ensures;
  same_section_and_bases = c.partial_fde_at.ensures.same_section_and_bases;
}
