use Rattle.std.proofs.Common.{◌≡◌, ◌≤◌}
use Rattle.cfi_read_core.specs.ReaderCalls.{bytes_left, remaining}
use Rattle.cfi_entry.specs.Augmentations.{letters}
use Rattle.cfi_entry.specs.EntryViews.{augmentation_view, letter_context}
use Rattle.cfi_entry.proofs.augmentation.read_letters.Given as goal

-- what the letters that are left give from here is what all give from the start
abbrev pub invariant-loop-byte : goal.invariant-loop-byte
invariant-loop-byte g l =
    let position = g.R.Reader.position in
    let pointers = letter_context g.S._UnwindSectionPrivate.view l.at l.address_size in
    record {
      same : letters pointers (bytes_left (position l.text)) (augmentation_view l.known) (position l.input).source (position l.input).place
          ≡ letters pointers (bytes_left (position l.initial.text)) (augmentation_view l.initial.known) (position l.initial.input).source (position l.initial.input).place;
      source : (position l.input).source ≡ (position l.initial.input).source;
      behind : (g.S._UnwindSectionPrivate.view l.at.section).position.place ≤ (position l.input).place;
    }

abbrev pub decreases-loop-byte : goal.decreases-loop-byte
decreases-loop-byte g l = remaining (g.R.Reader.position l.text)
