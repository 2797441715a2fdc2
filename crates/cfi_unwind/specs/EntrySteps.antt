-- Going through the entries of a section, a step at a time.
use Rattle.std.specs.Prelude.{◌≡◌, ◌≤◌, Option, Some, None}
use Rattle.std.specs.Coded.{Coded-set, coded_list, coded_ℕ, coded_bool, le_prop}
use Rattle.cfi_read_core.specs.ReadFunctions.{Read, Position, ◌>>=◌, give, of_result}
use Rattle.cfi_read_core.specs.ReaderCalls.{map_ok}
use Rattle.cfi_entry.specs.Sections.{Section}
use Rattle.cfi_entry.specs.Prefixes.{Prefix, prefix}
use Rattle.cfi_entry.specs.Entries.{Entry, entry_of}

-- A reader that goes through a section has its bytes and its end, and stands no earlier than its
-- first place.
pub record GoesThrough (reader section : Position) : Type 0 where
  pub source : reader.source ≡ section.source
  pub first : section.place ≤ reader.place

pub GoesThrough_prop : (reader section : Position) → IsProp (GoesThrough reader section)
GoesThrough_prop reader section =
    hlevel (Coded-set (coded_list coded_ℕ), Coded-set coded_bool, Coded-set coded_ℕ, le_prop)

-- the entry of a prefix, or none where there is none
abbrev pub entry_of_prefix : Section → Option Prefix → Read (Option Entry)
entry_of_prefix section None = give None
entry_of_prefix section (Some found) = of_result (map_ok Some (entry_of section found))

-- the entry at a place, or none where the length is zero
unfoldable pub entry_read : Section → Read (Option Entry)
entry_read section = prefix section >>= entry_of_prefix section
