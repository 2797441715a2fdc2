-- What contracts see of the types of `.eh_frame_hdr`, and of `.eh_frame` beside it.
--     header_reader, unparsed_view      the section's bytes, and they with what the caller says of
--         them
--     header_view, header_section_view, rows_view      a parsed header, its section and the rows of
--         its table
--     table_view, table_section_view, table_starts, table_targets, table_offset      a table
--     walk_view, IsSameTable      an iterator over rows
--     start_size, calls_made, answers_of, AreStartsOf      the starts of a table's rows
--     signed_calls, signed_answers      those of four bytes with a sign
--     section_view      the section of the entries
--     listing_view      a table with the section whose FDEs it is to list
use Rattle.std.specs.Prelude.{◌≡◌, ℕ, Result}
use Rattle.cfi_read_core.specs.declared.error.Error.{Error}
use Rattle.cfi_read_core.specs.ReadFunctions.{Position}
use Rattle.cfi_read_core.specs.ReaderCalls.{extent_of}
use Rattle.cfi_parts.specs.declared.pointer.BaseAddresses.{BaseAddresses}
use Rattle.cfi_parts.specs.declared.pointer.Pointer.{Pointer}
use Rattle.cfi_read_core.specs.AddressSizes.{size_in_bytes}
use Rattle.cfi_entry.specs.declared.eh_frame.EhFrame.{EhFrame}
use Rattle.cfi_entry.specs.Sections.{Section, section_of}
use Rattle.cfi_entry.specs.SectionViews.{eh_frame_view}
use Rattle.gimli_cfi.specs.declared.hdr.header.EhFrameHdr.{EhFrameHdr}
use Rattle.gimli_cfi.specs.declared.hdr.header.ParsedEhFrameHdr.{ParsedEhFrameHdr}
use Rattle.gimli_cfi.specs.declared.hdr.table.EhHdrTable.{EhHdrTable}
use Rattle.gimli_cfi.specs.declared.hdr.iter.EhHdrTableIter.{EhHdrTableIter}
use Rattle.gimli_cfi.specs.declared.hdr.starts.SignedStarts.{SignedStarts}
use Rattle.gimli_cfi.specs.declared.hdr.starts.TableStarts.{TableStarts}
use Rattle.gimli_cfi.specs.EhFrameHdr.{HeaderSection, Header, Table, header_section}
use Rattle.gimli_cfi.specs.EhFrameHdr.{offset_of_pointer, start_of, table_of, target_of}
use Rattle.gimli_cfi.specs.HeaderRows.{Walk}
use Rattle.gimli_cfi.specs.TableCheck.{Listing}

-- ---- the sections

module _ {R : Type 0} where
  abbrev pub header_reader : EhFrameHdr R → R
  header_reader section = section.0

  -- the header's section as it is parsed with this address size and these bases
  abbrev pub unparsed_view : (R → Position) → EhFrameHdr R → ℕ → BaseAddresses → HeaderSection
  unparsed_view position section size bases =
      header_section (position section.0) size bases.eh_frame_hdr

  -- the section of the entries, with the bases of their pointers
  abbrev pub section_view : (R → Position) → EhFrame R → BaseAddresses → Section
  section_view position frame bases = section_of (eh_frame_view position frame) bases

-- In the types below the reader's offset and byte order follow the reader; the braces have what the
-- traits of the three say.

module _ {R O E : Type 0} {a : _} {b : _} {c : _} {d : _} {e : _} {f : _} {g : _} {h : _} {i : _}
    {j : _} {k : _} where
  -- ---- a parsed header

  abbrev pub header_view : (R → Position) → ParsedEhFrameHdr R O E a b c d e f g h i j k → Header
  header_view position header = record {
    eh_frame = header.eh_frame_ptr;
    table = table_of header.table_enc.0 header.fde_count (extent_of (position header.table));
  }

  -- the reader of the section that it was parsed from
  abbrev pub header_bytes : ParsedEhFrameHdr R O E a b c d e f g h i j k → R
  header_bytes header = header.section

  abbrev pub header_address_size : ParsedEhFrameHdr R O E a b c d e f g h i j k → ℕ
  header_address_size header = size_in_bytes header.address_size

  -- its section, with the bases with which the rows are read
  abbrev pub header_section_view :
      (R → Position) → ParsedEhFrameHdr R O E a b c d e f g h i j k → BaseAddresses → HeaderSection
  header_section_view position header bases =
      header_section (position header.section) (size_in_bytes header.address_size)
      bases.eh_frame_hdr

  -- its rows
  abbrev pub rows_view : (R → Position) → ParsedEhFrameHdr R O E a b c d e f g h i j k → Table
  rows_view position header = record {
    encoding = header.table_enc.0;
    count = header.fde_count;
    rows = extent_of (position header.table);
  }

  -- the start of each row, and the target
  abbrev pub starts_view :
      (R → Position) → ParsedEhFrameHdr R O E a b c d e f g h i j k → BaseAddresses → ℕ →
      Result ℕ Error
  starts_view position header bases =
      start_of (header_section_view position header bases) (rows_view position header)

  abbrev pub targets_view :
      (R → Position) → ParsedEhFrameHdr R O E a b c d e f g h i j k → BaseAddresses → ℕ →
      Result Pointer Error
  targets_view position header bases =
      target_of (header_section_view position header bases) (rows_view position header)

  -- ---- the table of a header

  abbrev pub table_header :
      EhHdrTable R O E a b c d e f g h i j k → ParsedEhFrameHdr R O E a b c d e f g h i j k
  table_header table = table.hdr.now

  abbrev pub table_view : (R → Position) → EhHdrTable R O E a b c d e f g h i j k → Table
  table_view position table = rows_view position table.hdr.now

  abbrev pub table_section_view :
      (R → Position) → EhHdrTable R O E a b c d e f g h i j k → BaseAddresses → HeaderSection
  table_section_view position table bases = header_section_view position table.hdr.now bases

  abbrev pub table_starts :
      (R → Position) → EhHdrTable R O E a b c d e f g h i j k → BaseAddresses → ℕ → Result ℕ Error
  table_starts position table bases = starts_view position table.hdr.now bases

  abbrev pub table_targets :
      (R → Position) → EhHdrTable R O E a b c d e f g h i j k → BaseAddresses → ℕ →
      Result Pointer Error
  table_targets position table bases = targets_view position table.hdr.now bases

  -- the offset in .eh_frame of what a pointer points to
  abbrev pub table_offset :
      (R → Position) → EhHdrTable R O E a b c d e f g h i j k → Pointer → Result ℕ Error
  table_offset position table pointer =
      offset_of_pointer (position table.hdr.now.section).source.greatest table.hdr.now.eh_frame_ptr
      pointer

  -- ---- an iterator over the rows of a table

  abbrev pub walk_view : (R → Position) → EhHdrTableIter R O E a b c d e f g h i j k → Walk
  walk_view position it = record {
    section = header_section_view position it.hdr.now it.bases.now;
    encoding = it.hdr.now.table_enc.0;
    count = it.remain;
    position = position it.table;
  }

  -- both are over the rows of one header, with the same bases
  abbrev pub IsSameTable :
      EhHdrTableIter R O E a b c d e f g h i j k → EhHdrTableIter R O E a b c d e f g h i j k →
      Type 0
  IsSameTable before after = (after.hdr.now ≡ before.hdr.now) × (after.bases.now ≡ before.bases.now)

  -- ---- the starts of a table's rows

  -- the size of a start in bytes
  abbrev pub start_size : TableStarts R O E a b c d e f g h i j k → ℕ
  start_size starts = starts.size

  abbrev pub calls_made : TableStarts R O E a b c d e f g h i j k → ℕ
  calls_made starts = starts.calls.calls

  abbrev pub answers_of :
      (R → Position) → TableStarts R O E a b c d e f g h i j k → ℕ → Result ℕ Error
  answers_of position starts = starts_view position starts.hdr.now starts.bases.now

  -- they are those of this table with these bases
  abbrev pub AreStartsOf :
      TableStarts R O E a b c d e f g h i j k → EhHdrTable R O E a b c d e f g h i j k →
      BaseAddresses → Type 0
  AreStartsOf starts table bases = (starts.hdr.now ≡ table.hdr.now) × (starts.bases.now ≡ bases)

  -- the same of a table whose pointers are four bytes with a sign
  abbrev pub signed_calls : SignedStarts R O E a b c d e f g h i j k → ℕ
  signed_calls starts = starts.calls.calls

  abbrev pub signed_answers :
      (R → Position) → SignedStarts R O E a b c d e f g h i j k → ℕ → Result ℕ Error
  signed_answers position starts = starts_view position starts.hdr.now starts.bases.now

  -- ---- the table with the section

  abbrev pub listing_view :
      (R → Position) → EhHdrTable R O E a b c d e f g h i j k → EhFrame R → BaseAddresses → Listing
  listing_view position table frame bases = record {
    header = table_section_view position table bases;
    table = table_view position table;
    eh_frame = table.hdr.now.eh_frame_ptr;
    section = section_view position frame bases;
  }
