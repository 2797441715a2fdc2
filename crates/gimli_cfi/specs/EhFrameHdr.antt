-- The header of .eh_frame and its table (LSB Core, "The .eh_frame_hdr section").
use Rattle.std.specs.Prelude.{ℕ, ◌+◌, ◌-◌, ◌*◌, Bool, not, ◌||◌, Option, Some, None, Result, Ok}
use Rattle.std.specs.Prelude.{Err, ok_or, nat_le, ◌==◌, if◌then◌else◌}
use Rattle.std.specs.Int.{w8}
use Rattle.cfi_read_core.specs.declared.error.Error.{Error}
use Rattle.cfi_read_core.specs.declared.error.Error.TheVariants.{UnknownVersion}
use Rattle.cfi_read_core.specs.declared.error.Error.TheVariants.{UnsupportedPointerEncoding}
use Rattle.cfi_read_core.specs.declared.error.Error.TheVariants.{OffsetOutOfBounds}
use Rattle.cfi_read_core.specs.declared.error.Error.TheVariants.{UnsupportedOffset}
use Rattle.cfi_read_core.specs.ReadFunctions.{Read, Source, Position, Extent, ◌>>=◌, ◌>>◌, give}
use Rattle.cfi_read_core.specs.ReadFunctions.{refuse, refuse_if, of_result, offset, skip, remainder}
use Rattle.cfi_read_core.specs.Numbers.{unsigned}
use Rattle.cfi_read_core.specs.PointerEncodings.{format_of, application_of, is_indirect, is_omitted}
use Rattle.cfi_parts.specs.declared.pointer.Pointer.{Pointer}
use Rattle.cfi_parts.specs.declared.pointer.SectionBaseAddresses.{SectionBaseAddresses}
use Rattle.cfi_parts.specs.Pointers.{PointerContext, encoding_byte, encoded_value, pointer, direct}

-- The section of a header: its bytes, and what the caller says of them.
pub record HeaderSection : Type 0 where
  pub source : Source
  pub first : ℕ  -- the place where it begins
  pub address_size : ℕ
  pub bases : SectionBaseAddresses

pub record Table : Type 0 where
  pub encoding : ℕ
  pub count : ℕ
  pub rows : Extent

pub record Header : Type 0 where
  pub eh_frame : Pointer
  pub table : Option Table  -- none where there are no rows

-- the section at a reader's place, with the bases of its pointers
abbrev pub header_section : Position → ℕ → SectionBaseAddresses → HeaderSection
header_section position size bases =
    record { source = position.source; first = position.place; address_size = size; bases = bases }

abbrev pub header_context : HeaderSection → PointerContext
header_context section = record {
  bases = section.bases;
  function = None;
  size = section.address_size;
  section = section.first;
}

-- ---- the fields, in order

-- whether an encoding has a base or an indirection; a count may have neither
abbrev pub has_base : ℕ → Bool
has_base encoding = not (application_of encoding == 0) || is_indirect encoding

unfoldable pub row_count : ℕ → ℕ → ℕ → Read ℕ
row_count size count_encoding table_encoding =
    if is_omitted count_encoding || is_omitted table_encoding
    then give 0
    else (do
      refuse_if (has_base count_encoding)
          (UnsupportedPointerEncoding (record { 0 = count_encoding }))
      encoded_value count_encoding size)

abbrev pub table_of : ℕ → ℕ → Extent → Option Table
table_of encoding count rows =
    if count == 0 then None else Some (record { encoding = encoding; count = count; rows = rows })

unfoldable pub header_fields : HeaderSection → Read Header
header_fields section = do
  version ← unsigned w8
  refuse_if (not (version == 1)) (UnknownVersion version)
  pointer_encoding ← encoding_byte
  count_encoding ← encoding_byte
  table_encoding ← encoding_byte
  eh_frame ← pointer pointer_encoding (header_context section)
  count ← row_count section.address_size count_encoding table_encoding
  rows ← remainder
  give (record { eh_frame = eh_frame; table = table_of table_encoding count rows })

abbrev pub header_of : HeaderSection → Result Header Error
header_of section = (header_fields section section.source section.first).value

-- ---- the rows

-- the size in bytes of a value in a format that can be searched
abbrev pub value_size : ℕ → Option ℕ
value_size encoding =
    let format = format_of encoding in
    if format == 0x02 || format == 0x0a then Some 2
    else if format == 0x03 || format == 0x0b then Some 4
    else if format == 0x04 || format == 0x0c then Some 8
    else None

-- the same, or the error for a format that can't be searched
abbrev pub searched_size : ℕ → Result ℕ Error
searched_size encoding =
    ok_or (value_size encoding) (UnsupportedPointerEncoding (record { 0 = encoding }))

-- a row is a start and a target
unfoldable pub row_by : PointerContext → ℕ → Read (Pointer × Pointer)
row_by context encoding = do
  start ← pointer encoding context
  target ← pointer encoding context
  give (start, target)

abbrev pub row : HeaderSection → ℕ → Read (Pointer × Pointer)
row section = row_by (header_context section)

-- skips k rows
abbrev pub rows_passed : ℕ → ℕ → Read Unit
rows_passed size k = do
  passed ← offset (k * (size + size))
  skip passed

-- a field of row k, from the first row on: the one after the first `before` bytes of row k
unfoldable pub row_field : HeaderSection → Table → ℕ → ℕ → ℕ → Read Pointer
row_field section table size k before = do
  rows_passed size k
  skip before
  pointer table.encoding (header_context section)

-- nothing is before the start, and the start is before the target
abbrev pub start_field : HeaderSection → Table → ℕ → ℕ → Read Pointer
start_field section table size k = row_field section table size k 0

abbrev pub target_field : HeaderSection → Table → ℕ → ℕ → Read Pointer
target_field section table size k = row_field section table size k size

abbrev pub field_by : (ℕ → ℕ → Read Pointer) → ℕ → Option ℕ → ℕ → Read Pointer
field_by field encoding None k = refuse (UnsupportedPointerEncoding (record { 0 = encoding }))
field_by field encoding (Some size) k = field size k

abbrev pub in_rows : {A : Type 0} → HeaderSection → Table → Read A → Result A Error
in_rows section table read =
    (read (record section.source { last = table.rows.last }) table.rows.first).value

-- the start of row k, which has to be direct
unfoldable pub start_of : HeaderSection → Table → ℕ → Result ℕ Error
start_of section table k =
    in_rows section table
    (field_by (start_field section table) table.encoding (value_size table.encoding) k >>=
    λ p. of_result (direct p))

-- the target of row k
unfoldable pub target_of : HeaderSection → Table → ℕ → Result Pointer Error
target_of section table k =
    in_rows section table
    (field_by (target_field section table) table.encoding (value_size table.encoding) k)

-- ---- from a pointer to an offset in .eh_frame, which is at most the greatest of the header's
-- reader

abbrev pub offset_above : ℕ → ℕ → ℕ → Result ℕ Error
offset_above greatest base a =
    if nat_le base a
    then (if nat_le (a - base) greatest then Ok (a - base) else Err UnsupportedOffset)
    else Err (OffsetOutOfBounds a)

abbrev pub both_direct : ℕ → Result ℕ Error → Result ℕ Error → Result ℕ Error
both_direct greatest (Ok base) (Ok a) = offset_above greatest base a
both_direct greatest (Ok base) (Err e) = Err e
both_direct greatest (Err e) a = Err e

abbrev pub offset_of_pointer : ℕ → Pointer → Pointer → Result ℕ Error
offset_of_pointer greatest eh_frame p = both_direct greatest (direct eh_frame) (direct p)
