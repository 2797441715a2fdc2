-- A profile that was written to a pipe: records alone, some of which say what the header of a file
-- and its other parts do (perf.data-file-format.txt).
--     is_pipe endian bytes      whether the header is that of a pipe
--     pipe_head endian records      what these records say before they are read
use Rattle.std.specs.Prelude.{ℕ, ◌+◌, zero, suc, Bool, false, ◌&&◌, ◌||◌, List, [], drop, length}
use Rattle.std.specs.Prelude.{Option, Some, None, Result, Ok, Err, unwrap_or, ◌==◌, not}
use Rattle.std.specs.Prelude.{if◌then◌else◌}
use Rattle.std.specs.Int.{w64}
use Rattle.cfi_read_core.specs.declared.error.Error.{Error}
use Rattle.cfi_read_core.specs.declared.endianity.RunTimeEndian.{RunTimeEndian}
use Rattle.cfi_read_core.specs.ByteOrder.{is_big}
use Rattle.cfi_read_core.specs.Numbers.{unsigned}
use Rattle.cfi_read_core.specs.ReaderCalls.{map_ok}
use Rattle.cfi_read_core.specs.SliceReaders.{slice_over}
use Rattle.cfi_perf.specs.declared.event_entry.EntryForm.TheVariants.{Records as RecordsForm}
use Rattle.cfi_perf.specs.declared.event_entry.EventEntry.{EventEntry}
use Rattle.cfi_perf.specs.declared.error.PerfError.{PerfError}
use Rattle.cfi_perf.specs.declared.error.PerfError.TheVariants.{PipeMode}
use Rattle.cfi_perf.specs.EventTables.{EventTable, event_table_of}
use Rattle.cfi_perf.specs.FileParts.{file_parts}
use Rattle.cfi_perf.specs.EventEntries.{first_event, pipe_event}
use Rattle.cfi_perf.specs.RecordFrames.{FramedRecord, split_record}
use Rattle.cfi_perf.specs.Results.{and_then}
use Rattle.cfi_perf.specs.ByteReads.{entries, read_from}
use Rattle.cfi_perf.specs.EventSections.{EventSection}
use Rattle.cfi_perf.specs.ProfileHeads.{ProfileHead}
use Rattle.cfi_perf.specs.Architectures.{machine_by, text_in}

-- the header has 16 bytes
abbrev pub is_size : Result ℕ Error → ℕ → Bool
is_size (Ok found) size = found == size
is_size (Err e) size = false

abbrev pub is_pipe : RunTimeEndian → List ℕ → Bool
is_pipe endian bytes = is_size (read_from (is_big endian) (drop 8 bytes) (unsigned w64)) 16

-- ---- the events

-- how many records are PERF_RECORD_HEADER_ATTR (64)
abbrev pub events_of : FramedRecord → ℕ
events_of r = if r.header.kind == 64 then 1 else 0

abbrev pub count_with : Result FramedRecord PerfError → (List ℕ → ℕ) → ℕ
count_with (Err e) others = 0
count_with (Ok r) others = events_of r + others r.others

unfoldable pub attributes_up_to : ℕ → Bool → List ℕ → ℕ
attributes_up_to zero big records = 0
attributes_up_to (suc n) big records =
    count_with (split_record big records) (attributes_up_to n big)

abbrev pub attributes_in : Bool → List ℕ → ℕ
attributes_in big records = attributes_up_to (length records) big records

abbrev pub pipe_entries : Bool → List ℕ → ℕ → List EventEntry
pipe_entries big records count = entries count pipe_event (slice_over records big).source 0

-- whether so many of them stand first, one after the other
abbrev pub stand_first : Bool → List ℕ → ℕ → Bool
stand_first big records count = length (pipe_entries big records count) == count

abbrev pub pipe_section : Bool → List ℕ → Result EventSection PerfError
pipe_section big records =
    let count = attributes_in big records in
    and_then (first_event (pipe_entries big records count)) (λ first.
    if not (stand_first big records count) then Err PipeMode
    else Ok (record { form = RecordsForm; count = count; attrs = records; first = first }))

-- ---- the features

-- PERF_RECORD_HEADER_FEATURE (80) has the number of the feature, and the bytes of its section
abbrev pub is_feature : Bool → ℕ → FramedRecord → Bool
is_feature big number r =
    (r.header.kind == 80) && is_size (read_from big r.body (unsigned w64)) number

abbrev pub section_with :
    Bool → ℕ → Result FramedRecord PerfError → (List ℕ → Option (List ℕ)) → Option (List ℕ)
section_with big number (Err e) others = None
section_with big number (Ok r) others =
    if is_feature big number r then Some (drop 8 r.body) else others r.others

unfoldable pub feature_up_to : ℕ → Bool → ℕ → List ℕ → Option (List ℕ)
feature_up_to zero big number records = None
feature_up_to (suc n) big number records =
    section_with big number (split_record big records) (feature_up_to n big number)

-- that of the first record that has it
abbrev pub feature : Bool → List ℕ → ℕ → Option (List ℕ)
feature big records number = feature_up_to (length records) big number records

-- HEADER_EVENT_DESC is 12
abbrev pub pipe_descriptions : Bool → List ℕ → List ℕ
pipe_descriptions big records = unwrap_or (feature big records 12) []

-- HEADER_ARCH is 6; where there is none, by the registers of the first event
abbrev pub architecture_by :
    Bool → EventEntry → Option (List ℕ) → Result (Option (List ℕ)) PerfError
architecture_by big event (Some section) = map_ok Some (text_in big section)
architecture_by big event None = Ok (machine_by big event.attribute.layout.sample_regs_user)

abbrev pub pipe_architecture : Bool → List ℕ → EventEntry → Result (Option (List ℕ)) PerfError
pipe_architecture big records event = architecture_by big event (feature big records 6)

-- ---- the builds of files

abbrev pub build_ids_with :
    List ℕ → Result FramedRecord PerfError → (List ℕ → List ℕ) → List ℕ
build_ids_with records (Err e) others = []
build_ids_with records (Ok r) others = if r.header.kind == 67 then records else others r.others

unfoldable pub build_ids_up_to : ℕ → Bool → List ℕ → List ℕ
build_ids_up_to zero big records = []
build_ids_up_to (suc n) big records =
    build_ids_with records (split_record big records) (build_ids_up_to n big)

-- the records from the first PERF_RECORD_HEADER_BUILD_ID (67) on, among which the others stand
abbrev pub build_ids_in : Bool → List ℕ → List ℕ
build_ids_in big records = build_ids_up_to (length records) big records

-- ---- the profile

abbrev pub pipe_table : Bool → List ℕ → EventSection → EventTable
pipe_table big records events =
    event_table_of big (file_parts records) events (pipe_descriptions big records)
    (build_ids_in big records)

unfoldable pub pipe_head : RunTimeEndian → List ℕ → Result ProfileHead PerfError
pipe_head endian records =
    and_then (pipe_section (is_big endian) records) (λ events.
    Ok (record {
      endian = endian;
      events = pipe_table (is_big endian) records events;
      architecture = pipe_architecture (is_big endian) records events.first;
      place = 16;
      size = length records;
      is_cut = false;
    }))
