-- The events of a profile, and which of them a record is of (perf_event_open(2), PERF_SAMPLE_ID and
-- PERF_SAMPLE_IDENTIFIER).
--     event_of_sample events body      the event of a sample; none where no event has its id
--     layout_of_other events body      the layout of the event of another record
use Rattle.std.specs.Prelude.{ℕ, ◌+◌, ◌-◌, ◌*◌, ◌/◌, Bool, not, ◌||◌, List, [], ◌∷◌, drop, length}
use Rattle.std.specs.Prelude.{map}
use Rattle.std.specs.Prelude.{Option, Some, None, Result, Ok, Err, count_ones, bit_and, ◌==◌}
use Rattle.std.specs.Prelude.{if◌then◌else◌}
use Rattle.std.specs.List.{list_any}
use Rattle.std.specs.Int.{w64}
use Rattle.cfi_read_core.specs.declared.error.Error.{Error}
use Rattle.cfi_read_core.specs.ByteOrder.{is_big}
use Rattle.cfi_read_core.specs.Numbers.{unsigned}
use Rattle.cfi_read_core.specs.SliceReaders.{slice_over}
use Rattle.cfi_perf.specs.declared.attribute.Attribute.{Attribute}
use Rattle.cfi_perf.specs.declared.event_entry.EntryForm.{EntryForm}
use Rattle.cfi_perf.specs.declared.event_entry.EventEntry.{EventEntry}
use Rattle.cfi_perf.specs.declared.layout.EventLayout.{EventLayout}
use Rattle.cfi_perf.specs.declared.event_table.EventTable.{EventTable as EventTableOfCode}
use Rattle.cfi_perf.specs.declared.event_table.ProfileEvent.{ProfileEvent as EventOfCode}
use Rattle.cfi_perf.specs.FileParts.{SectionBytes, parts_at_hand}
use Rattle.cfi_perf.specs.ByteReads.{entries, numbers_of, read_from}
use Rattle.cfi_perf.specs.Layouts.{has, PERF_SAMPLE_IDENTIFIER}
use Rattle.cfi_perf.specs.EventEntries.{entry}
use Rattle.cfi_perf.specs.EventNames.{event_name}
use Rattle.cfi_perf.specs.EventSections.{EventSection}

pub record ProfileEvent : Type 0 where
  pub layout : EventLayout
  pub name : List ℕ

-- An event, and the ids by which records name it.
pub record KnownEvent : Type 0 where
  pub attribute : Attribute
  pub ids : List ℕ

-- All events, with what says their names, and the builds of files.
pub record EventTable : Type 0 where
  pub big_endian : Bool
  pub descriptions : List ℕ  -- the section with the names
  pub entries : List KnownEvent
  pub first : ProfileEvent
  pub is_alone : Bool  -- whether the first is the only one
  pub build_ids : List ℕ  -- the section with the builds of files

-- ---- the ids of events

-- those in a part of the file
abbrev pub numbers_in : Bool → Option (List ℕ) → List ℕ
numbers_in big None = []
numbers_in big (Some bytes) = numbers_of big bytes

abbrev pub known_event : Bool → SectionBytes → EventEntry → KnownEvent
known_event big parts e =
    record { attribute = e.attribute; ids = numbers_in big (parts e.ids) }

-- n events of this form, in these bytes
abbrev pub known_events : Bool → SectionBytes → ℕ → EntryForm → List ℕ → List KnownEvent
known_events big parts n form attrs =
    map (known_event big parts) (entries n (entry form) (slice_over attrs big).source 0)

-- ---- what these are in the code

abbrev pub profile_event_view : EventOfCode → ProfileEvent
profile_event_view e = record { layout = e.layout; name = e.name.now }

abbrev pub event_table_view : EventTableOfCode → EventTable
event_table_view table = record {
  big_endian = is_big table.endian;
  descriptions = table.descriptions.now;
  entries =
      known_events (is_big table.endian) (parts_at_hand table.bytes) table.count table.form
      table.attrs.now;
  first = profile_event_view table.first;
  is_alone = table.count == 1;
  build_ids = table.build_ids.now;
}

-- those of a section, by the sections of their names and of builds
abbrev pub event_table_of : Bool → SectionBytes → EventSection → List ℕ → List ℕ → EventTable
event_table_of big parts events descriptions build_ids = record {
  big_endian = big;
  descriptions = descriptions;
  entries = known_events big parts events.count events.form events.attrs;
  first = record {
    layout = events.first.attribute.layout;
    name = event_name big descriptions 0 events.first.attribute;
  };
  is_alone = events.count == 1;
  build_ids = build_ids;
}

-- ---- the event of an id

abbrev pub has_id : KnownEvent → ℕ → Bool
has_id event id = list_any (λ known. known == id) event.ids

abbrev pub numbered_event : EventTable → ℕ → Attribute → ProfileEvent
numbered_event table index attribute = record {
  layout = attribute.layout;
  name = event_name table.big_endian table.descriptions index attribute;
}

-- the first with this id of some, of which the first has this index
abbrev pub first_with_id : EventTable → ℕ → ℕ → List KnownEvent → Option ProfileEvent
first_with_id table id index [] = None
first_with_id table id index (event ∷ others) =
    if has_id event id then Some (numbered_event table index event.attribute)
    else first_with_id table id (index + 1) others

-- what perf itself makes up has the id 0
abbrev pub event_of_id : EventTable → ℕ → Option ProfileEvent
event_of_id table id =
    if id == 0 then Some table.first else first_with_id table id 0 table.entries

-- ---- the event of a record

-- PERF_SAMPLE_IDENTIFIER stands first in a sample, and PERF_SAMPLE_ID after IP, TID, TIME and ADDR
abbrev pub id_place : EventLayout → ℕ
id_place layout =
    if has PERF_SAMPLE_IDENTIFIER layout then 0
    else 8 * count_ones (bit_and layout.sample_type 0xf)

-- PERF_SAMPLE_ID or PERF_SAMPLE_IDENTIFIER
abbrev pub tells_id : EventLayout → Bool
tells_id layout = has 0x10040 layout

-- a record that ends before its id is refused when it is read
abbrev pub event_by : EventTable → Result ℕ Error → Option ProfileEvent
event_by table (Ok id) = event_of_id table id
event_by table (Err e) = Some table.first

abbrev pub event_of_sample : EventTable → List ℕ → Option ProfileEvent
event_of_sample table body =
    if table.is_alone || not (tells_id table.first.layout) then Some table.first
    else event_by table
    (read_from table.big_endian (drop (id_place table.first.layout) body) (unsigned w64))

abbrev pub layout_or_first : EventTable → Option ProfileEvent → EventLayout
layout_or_first table (Some e) = e.layout
layout_or_first table None = table.first.layout

-- PERF_SAMPLE_IDENTIFIER stands last in other records
abbrev pub layout_of_other : EventTable → List ℕ → EventLayout
layout_of_other table body =
    if table.is_alone || not (has PERF_SAMPLE_IDENTIFIER table.first.layout) then table.first.layout
    else layout_or_first table
    (event_by table (read_from table.big_endian (drop (length body - 8) body) (unsigned w64)))
