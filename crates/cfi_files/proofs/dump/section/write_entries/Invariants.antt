use Rattle.std.proofs.Common.{◌≡◌, ℕ}
use Rattle.cfi_unwind.specs.CachedCie.{IsCacheOf}
use Rattle.cfi_files.specs.Sending.{Grows}
use Rattle.cfi_files.proofs.dump.section.write_entries.Given as goal

-- the entries are those of the section
abbrev pub invariant-loop-entry : goal.invariant-loop-entry
invariant-loop-entry g l =
    record {
      can_next : (goal.iterator-loop-entry g).can_next l.entry-iterator;
      is_finite : (goal.iterator-loop-entry g).is_finite l.entry-iterator;
      same_section : l.entry-iterator.section ≡ l.at.section;
      same_bases : l.entry-iterator.bases.now ≡ l.at.bases.now;
      grows : Grows (g.W.Write.contents l.initial.output) (g.W.Write.contents l.output);
      cached : IsCacheOf g.R.Reader.position (λ (n : ℕ). n) (g.S._UnwindSectionPrivate.view l.at.section) l.at.bases.now l.cies;
    }
