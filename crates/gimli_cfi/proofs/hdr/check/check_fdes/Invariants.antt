use Rattle.std.proofs.Common.{◌≡◌, ◌≤◌, ◌+◌, ◌-◌, ◌*◌, length}
use Rattle.cfi_entry.specs.Entries.{entries, entries_left}
use Rattle.cfi_entry.specs.SectionViews.{eh_frame_view}
use Rattle.cfi_unwind.specs.CachedCie.{IsCacheOf}
use Rattle.cfi_parts.specs.InstructionReaders.{items}
use Rattle.gimli_cfi.specs.TableCheck.{starts_for_fde}
use Rattle.gimli_cfi.specs.HeaderViews.{section_view, header_section_view, table_view}
use Rattle.gimli_cfi.proofs.EntryEnds.{StandsAt}
use Rattle.gimli_cfi.proofs.Passed.{Passed}
use Rattle.gimli_cfi.proofs.hdr.check.check_fdes.Given as goal

-- the FDEs that have passed have rows, what holds of the entries that are left makes what holds of all, and the last one
-- that has passed ends where the next one begins
abbrev pub invariant-loop-entry : goal.invariant-loop-entry
invariant-loop-entry g l =
    let position = g.R.Reader.position in
    let source = g.St.StartSource in
    let section = section_view position l.frame l.bases in
    let table = table_view position l.table in
    record {
      same_section : l.entries.section ≡ l.frame;
      same_bases : l.entries.bases.now ≡ l.bases;
      cies : IsCacheOf position g.R.Offset.ReaderOffset.number (eh_frame_view position l.frame) l.bases l.cies;
      passed : Passed (header_section_view position l.table.hdr.now l.bases) table l.eh_frame section l.left (entries section) (entries_left section (position l.entries.input).place);
      stands : StandsAt section l.end (entries_left section (position l.entries.input).place);
      answers : source.answer l.starts ≡ source.answer l.fn.starts;
      calls : source.calls l.starts ≤ source.calls l.fn.starts + (table.count - l.left) * starts_for_fde table.count;
    }

abbrev pub decreases-loop-entry : goal.decreases-loop-entry
decreases-loop-entry g l =
    length (items (entries_left (section_view g.R.Reader.position l.entries.section l.entries.bases.now) (g.R.Reader.position l.entries.input).place))
