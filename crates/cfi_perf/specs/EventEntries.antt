-- The events of a profile, as they are written one after the other: as entries of a file, or as
-- records of a pipe (perf.data-file-format.txt).
use Rattle.std.specs.Prelude.{ℕ, ◌+◌, ◌-◌, ◌/◌, Bool, not, ◌&&◌, ◌||◌, List, [], ◌∷◌, length}
use Rattle.std.specs.Prelude.{Result, Ok, Err, nat_le, ◌==◌, if◌then◌else◌}
use Rattle.std.specs.List.{list_all}
use Rattle.cfi_read_core.specs.ReadFunctions.{Read, ◌>>=◌, give, here, refuse_if}
use Rattle.cfi_read_core.specs.SliceReaders.{slice_over}
use Rattle.cfi_perf.specs.declared.error.PerfError.{PerfError}
use Rattle.cfi_perf.specs.declared.error.PerfError.TheVariants.{NoEvents, MixedEvents}
use Rattle.cfi_read_core.specs.declared.error.Error.TheVariants.{UnsupportedOffset}
use Rattle.cfi_perf.specs.declared.event_entry.EntryForm.{EntryForm}
use Rattle.cfi_perf.specs.declared.event_entry.EntryForm.TheVariants.{Sized, Records as RecordsForm}
use Rattle.cfi_perf.specs.declared.attribute.SizedAttribute.{SizedAttribute}
use Rattle.cfi_perf.specs.declared.record_frame.RecordHeader.{RecordHeader}
use Rattle.cfi_perf.specs.declared.event_entry.EventEntry.{EventEntry}
use Rattle.cfi_perf.specs.RecordFrames.{record_header}
use Rattle.cfi_perf.specs.ByteReads.{item_bytes, entries}
use Rattle.cfi_perf.specs.FileHeaders.{file_section}
use Rattle.cfi_perf.specs.Attributes.{sized_attribute, attribute}
use Rattle.cfi_perf.specs.Layouts.{same_layout, both_identified}

-- an event of this size: its attributes, and where its ids are
unfoldable pub event : ℕ → Read EventEntry
event size = do
  attribute' ← attribute
  others ← item_bytes (size - 104) 1
  ids ← file_section
  give (record { attribute = attribute'; ids = ids })

-- PERF_RECORD_HEADER_ATTR (64) has the attributes of an event, of the size that they say, and the
-- ids after them; the attributes have at least the 96 bytes of PERF_ATTR_SIZE_VER3
abbrev pub has_all_attributes : RecordHeader → SizedAttribute → Bool
has_all_attributes header sized =
    (header.kind == 64) && (nat_le 96 sized.size && nat_le (8 + sized.size) header.size)

unfoldable pub pipe_event : Read EventEntry
pipe_event = do
  header ← record_header
  sized ← sized_attribute
  others ← item_bytes (sized.size - 88) 1
  place ← here
  ids ← item_bytes (header.size - (8 + sized.size)) 1
  whole ← refuse_if (not (has_all_attributes header sized)) UnsupportedOffset
  give (record {
    attribute = sized.attribute;
    ids = record { offset = place; size = header.size - (8 + sized.size) };
  })

-- of a file, or of a pipe
abbrev pub entry : EntryForm → Read EventEntry
entry (Sized size) = event size
entry RecordsForm = pipe_event

abbrev pub events : Bool → ℕ → List ℕ → List EventEntry
events big size bytes = entries (length bytes / size) (event size) (slice_over bytes big).source 0

abbrev pub are_readable : EventEntry → EventEntry → Bool
are_readable a b =
    same_layout a.attribute.layout b.attribute.layout
    || both_identified a.attribute.layout b.attribute.layout

-- the first event, if the records of each other one can be told from its own or are read as those
abbrev pub first_event : List EventEntry → Result EventEntry PerfError
first_event [] = Err NoEvents
first_event (first ∷ others) =
    if list_all (are_readable first) others then Ok first else Err MixedEvents
