use Rattle.std.proofs.Common.{◌≡◌, ◌++◌, ℕ, List, Option}
use Rattle.std.specs.Prelude.{flat_map}
use Rattle.cfi_parts.specs.InstructionReaders.{items}
use Rattle.cfi_unwind.specs.CachedCie.{IsCacheOf}
use Rattle.cfi_entry.specs.Entries.{entries_left}
use Rattle.cfi_entry.specs.Sections.{section_of}
use Rattle.cfi_files.specs.DumpRowTexts.{asked_rows, item_rows}
use Rattle.cfi_files.specs.Sending.{IsSent}
use Rattle.cfi_files.proofs.SendingLemmas.{IsLeft}
use Rattle.cfi_files.proofs.dump.addressed_rows.write_asked_rows.Given as goal

-- the entries are those of the section, and the rows of those that are left are left to send
abbrev pub invariant-loop-entry : goal.invariant-loop-entry
invariant-loop-entry g l =
    let section = section_of (g.S._UnwindSectionPrivate.view l.at.section) l.at.bases.now in
    record {
      can_next : (goal.iterator-loop-entry g).can_next l.entry-iterator;
      is_finite : (goal.iterator-loop-entry g).is_finite l.entry-iterator;
      same_section : l.entry-iterator.section ≡ l.at.section;
      same_bases : l.entry-iterator.bases.now ≡ l.at.bases.now;
      left : (first : Option (List ℕ)) → (sent : List ℕ) → IsSent first (g.W.Write.contents l.initial.output) l.initial.walk.text sent
          → IsLeft first (g.W.Write.contents l.output) l.walk.text (flat_map (item_rows l.style l.asked section) (items (entries_left section (g.R.Reader.position l.entry-iterator.input).place))) (sent ++ asked_rows l.style l.asked section);
      cached : IsCacheOf g.R.Reader.position (λ (n : ℕ). n) (g.S._UnwindSectionPrivate.view l.at.section) l.at.bases.now l.cies;
    }
