use Rattle.std.proofs.Common.{◌∙◌, ap}
use Rattle.cfi_entry.specs.Sections.{section_of}
use Rattle.cfi_entry.specs.Entries.{cie_at}
use Rattle.cfi_unwind.proofs.cie_cache.CieCache+R.get.Goals as goal

pub returns-then-known-place-clause-read : goal.returns-then-known-place-clause-read
returns-then-known-place-clause-read g c = λ cache.
    let kept = rw c.in-Some.is at cache in
    kept.0
    ∙ ap (λ n. cie_at (section_of (g.S._UnwindSectionPrivate.view c.args.section.now) c.args.bases.now) n)
    (c.if-known-place.true ∙ c.into_u64-place.ensures.value ∙ ap g.R.Offset.ReaderOffset.number c.into.ensures)
