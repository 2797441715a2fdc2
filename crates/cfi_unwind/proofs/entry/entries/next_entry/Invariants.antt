use Rattle.std.proofs.Common.{◌≡◌, ◌≤◌}
use Rattle.cfi_read_core.specs.ReaderCalls.{remaining}
use Rattle.cfi_entry.specs.Entries.{entries_left}
use Rattle.cfi_entry.specs.EntryViews.{section_in}
use Rattle.cfi_unwind.specs.EntrySteps.{GoesThrough}
use Rattle.cfi_unwind.proofs.entry.entries.next_entry.Given as goal

-- no entry was passed
abbrev pub invariant-loop-input : goal.invariant-loop-input
invariant-loop-input g l =
    let view = g.S._UnwindSectionPrivate.view in
    let position = g.R.Reader.position in
    record {
      same : entries_left (section_in view l.at) (position l.input).place ≡ entries_left (section_in view l.at) (position l.initial.input).place;
      through : GoesThrough (position l.input) (view l.at.section).position;
      no_more : remaining (position l.input) ≤ remaining (position l.initial.input);
    }

abbrev pub decreases-loop-input : goal.decreases-loop-input
decreases-loop-input g l = remaining (g.R.Reader.position l.input)
