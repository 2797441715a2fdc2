-- `CfiEntriesIter`, the iterator over the entries of a section, as what it means.
--     walk_section, walk_bases walk      its section and its bases
--     entries_of view position walk      the entries that are left
--     IsAtStart view position walk      it is at the beginning of its section
--     IsSameWalk new old      the two have the same section and bases
--     IsShorter position new old      the new one has fewer bytes left
use Rattle.std.specs.Prelude.{◌≡◌, ◌<◌}
use Rattle.cfi_read_core.specs.ReadFunctions.{Position, Readings}
use Rattle.cfi_read_core.specs.ReaderCalls.{remaining}
use Rattle.cfi_read_core.specs.CallFrameSections.{SectionView}
use Rattle.cfi_parts.specs.declared.pointer.BaseAddresses.{BaseAddresses}
use Rattle.cfi_entry.specs.Sections.{section_of}
use Rattle.cfi_entry.specs.Entries.{Entry, entries_left}
use Rattle.cfi_unwind.specs.declared.entry.entries.CfiEntriesIter.{CfiEntriesIter}

-- The reader's offset and byte order follow the reader; the braces have what the traits of the
-- section and of the reader say.

abbrev pub walk_section :
    {S R O E : Type 0} {a : _} {b : _} {c : _} {d : _} {e : _} {f : _} {g : _} {h : _} {i : _}
    {j : _} {k : _} {l : _} →
    CfiEntriesIter S R O E a b c d e f g h i j k l → S
walk_section walk = walk.section

abbrev pub walk_bases :
    {S R O E : Type 0} {a : _} {b : _} {c : _} {d : _} {e : _} {f : _} {g : _} {h : _} {i : _}
    {j : _} {k : _} {l : _} →
    CfiEntriesIter S R O E a b c d e f g h i j k l → BaseAddresses
walk_bases walk = walk.bases.now

abbrev pub entries_of :
    {S R O E : Type 0} {a : _} {b : _} {c : _} {d : _} {e : _} {f : _} {g : _} {h : _} {i : _}
    {j : _} {k : _} {l : _} →
    (S → SectionView) → (R → Position) → CfiEntriesIter S R O E a b c d e f g h i j k l →
    Readings Entry
entries_of view position walk =
    entries_left (section_of (view walk.section) walk.bases.now) (position walk.input).place

abbrev pub IsAtStart :
    {S R O E : Type 0} {a : _} {b : _} {c : _} {d : _} {e : _} {f : _} {g : _} {h : _} {i : _}
    {j : _} {k : _} {l : _} →
    (S → SectionView) → (R → Position) → CfiEntriesIter S R O E a b c d e f g h i j k l → Type 0
IsAtStart view position walk = position walk.input ≡ (view walk.section).position

abbrev pub IsSameWalk :
    {S R O E : Type 0} {a : _} {b : _} {c : _} {d : _} {e : _} {f : _} {g : _} {h : _} {i : _}
    {j : _} {k : _} {l : _} →
    CfiEntriesIter S R O E a b c d e f g h i j k l →
    CfiEntriesIter S R O E a b c d e f g h i j k l → Type 0
IsSameWalk new old = (new.section ≡ old.section) × (new.bases.now ≡ old.bases.now)

abbrev pub IsShorter :
    {S R O E : Type 0} {a : _} {b : _} {c : _} {d : _} {e : _} {f : _} {g : _} {h : _} {i : _}
    {j : _} {k : _} {l : _} →
    (R → Position) → CfiEntriesIter S R O E a b c d e f g h i j k l →
    CfiEntriesIter S R O E a b c d e f g h i j k l → Type 0
IsShorter position new old = remaining (position new.input) < remaining (position old.input)
