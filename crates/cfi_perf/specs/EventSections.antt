-- The part of a profile with its events (perf.data-file-format.txt, attrs).
--     events_by endian bytes header      that of a file
use Rattle.std.specs.Prelude.{ℕ, ◌/◌, List, length, Result, Ok, Err, nat_lt, if◌then◌else◌, ok_or}
use Rattle.cfi_read_core.specs.declared.endianity.RunTimeEndian.{RunTimeEndian}
use Rattle.cfi_read_core.specs.ByteOrder.{is_big}
use Rattle.cfi_perf.specs.declared.error.PerfError.{PerfError}
use Rattle.cfi_perf.specs.declared.error.PerfError.TheVariants.{AttributeSize}
use Rattle.cfi_perf.specs.declared.error.PerfError.TheVariants.{AttributesOutOfBounds}
use Rattle.cfi_perf.specs.declared.event_entry.EntryForm.{EntryForm}
use Rattle.cfi_perf.specs.declared.event_entry.EntryForm.TheVariants.{Sized}
use Rattle.cfi_perf.specs.declared.event_entry.EventEntry.{EventEntry}
use Rattle.cfi_perf.specs.declared.file_header.FileHeader.{FileHeader}
use Rattle.cfi_perf.specs.declared.event_section.EventSection.{EventSection as EventSectionOfCode}
use Rattle.cfi_perf.specs.Results.{and_then}
use Rattle.cfi_perf.specs.ByteReads.{part}
use Rattle.cfi_perf.specs.EventEntries.{events, first_event}

-- The part of the file with the events.
pub record EventSection : Type 0 where
  pub form : EntryForm  -- of each
  pub count : ℕ
  pub attrs : List ℕ  -- the bytes of all
  pub first : EventEntry

-- what these are in the code
abbrev pub event_section_view : EventSectionOfCode → EventSection
event_section_view s =
    record { form = s.form; count = s.count; attrs = s.attrs.now; first = s.first }

-- The attributes of an event have at least the 96 bytes of PERF_ATTR_SIZE_VER3; 16 bytes follow
-- them.
unfoldable pub events_by : RunTimeEndian → List ℕ → FileHeader → Result EventSection PerfError
events_by endian bytes header =
    if nat_lt header.attr_size 112 then Err (AttributeSize header.attr_size)
    else and_then
    (ok_or (part bytes header.attrs.offset header.attrs.size) AttributesOutOfBounds)
    (λ attrs.
    and_then (first_event (events (is_big endian) header.attr_size attrs))
    (λ first.
    Ok (record {
      form = Sized header.attr_size;
      count = length attrs / header.attr_size;
      attrs = attrs;
      first = first;
    })))
