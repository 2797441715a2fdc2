-- What each entry begins with: its length, which gives the format and the extent, and its id (DWARF
-- 5 section 6.4.1).
use Rattle.std.specs.Prelude.{ℕ, Option, Some, None, ◌==◌, if◌then◌else◌}
use Rattle.cfi_read_core.specs.declared.common.Format.{Format}
use Rattle.cfi_read_core.specs.ReadFunctions.{Read, Extent, ◌>>=◌, give, here, split, remainder}
use Rattle.cfi_read_core.specs.ReadFunctions.{within}
use Rattle.cfi_read_core.specs.Numbers.{InitialLength, unsigned, initial_length}
use Rattle.cfi_entry.specs.Sections.{Section, offset_in, id_width}

pub record Prefix : Type 0 where
  pub offset : ℕ  -- where the entry begins in the section
  pub length : ℕ  -- the value of the length field
  pub format : Format
  pub id : ℕ
  pub id_offset : ℕ  -- where the id stands in the section
  pub rest : Extent  -- what is left after the id

-- inside the extent of an entry that begins at the offset
abbrev pub fields_after_length : Section → ℕ → ℕ → Format → Read Prefix
fields_after_length section offset length format = do
  place ← here
  id ← unsigned (id_width section.kind format)
  rest ← remainder
  give (record {
    offset = offset;
    length = length;
    format = format;
    id = id;
    id_offset = offset_in section place;
    rest = rest;
  })

-- after the length of an entry that begins at the offset
abbrev pub of_length : Section → ℕ → InitialLength → Read (Option Prefix)
of_length section offset field =
    if field.length == 0 then give None else (do
      extent ← split field.length
      found ← within extent (fields_after_length section offset field.length field.format)
      give (Some found))

-- An entry, or none where the length is zero. The place after it is that after the extent.
unfoldable pub prefix : Section → Read (Option Prefix)
prefix section = do
  start ← here
  field ← initial_length
  of_length section (offset_in section start) field
