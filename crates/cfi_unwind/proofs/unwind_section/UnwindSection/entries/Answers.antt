use Rattle.cfi_unwind.proofs.unwind_section.UnwindSection.entries.Goals as goal

pub returns : goal.returns
returns g c = record { section = assumption; bases = assumption; all = assumption }
