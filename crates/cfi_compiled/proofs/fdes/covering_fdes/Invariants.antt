use Rattle.std.proofs.Common.{◌≡◌, ℕ, length, map}
use Rattle.std.specs.List.{All}
use Rattle.cfi_read_core.specs.CallFrameSections.{IsOf}
use Rattle.cfi_parts.specs.InstructionReaders.{items}
use Rattle.cfi_entry.specs.Entries.{entries_left}
use Rattle.cfi_entry.specs.Sections.{section_of}
use Rattle.cfi_unwind.specs.CachedCie.{IsCacheOf}
use Rattle.cfi_unwind.specs.FdeViews.{fde_view}
use Rattle.cfi_compiled.proofs.Gathered.{Gathered}
use Rattle.cfi_compiled.proofs.fdes.covering_fdes.Given as goal

abbrev pub invariant-loop-partial : goal.invariant-loop-partial
invariant-loop-partial g l =
    let section = section_of (g.S._UnwindSectionPrivate.view l.section) l.bases in
    record {
      same_section : l.entries.section ≡ l.section;
      same_bases : l.entries.bases.now ≡ l.bases;
      gathered : Gathered section (map (fde_view g.R.Reader.position (λ (n : ℕ). n)) l.fdes.items) (entries_left section (g.R.Reader.position l.entries.input).place);
      cached : IsCacheOf g.R.Reader.position (λ (n : ℕ). n) (g.S._UnwindSectionPrivate.view l.section) l.bases l.cache;
      own : All (λ fde. IsOf (g.R.Reader.position fde.instructions) (g.S._UnwindSectionPrivate.view l.section).position) l.fdes.items;
      cie : All (λ fde. IsOf (g.R.Reader.position fde.cie.initial_instructions) (g.S._UnwindSectionPrivate.view l.section).position) l.fdes.items;
    }

abbrev pub decreases-loop-partial : goal.decreases-loop-partial
decreases-loop-partial g l =
    length (items (entries_left (section_of (g.S._UnwindSectionPrivate.view l.entries.section) l.entries.bases.now) (g.R.Reader.position l.entries.input).place))
