-- The records of mapped files, programs and new processes (perf_event_open(2), "MMAP layout";
-- include/uapi/linux/perf_event.h).
use Rattle.std.specs.Prelude.{ℕ, Bool, not, List, drop, Option, Some, None, Result, Ok, option_map}
use Rattle.std.specs.Prelude.{if◌then◌else◌, ok_or}
use Rattle.std.specs.Int.{w32, w64}
use Rattle.cfi_read_core.specs.ReadFunctions.{Read, ◌>>=◌, give}
use Rattle.cfi_read_core.specs.Numbers.{unsigned}
use Rattle.cfi_perf.specs.declared.error.PerfError.{PerfError}
use Rattle.cfi_perf.specs.declared.error.PerfError.TheVariants.{RecordCut}
use Rattle.cfi_perf.specs.declared.record.Record.{Record as RecordOfCode}
use Rattle.cfi_perf.specs.declared.record.Event.{Event as EventOfCode}
use Rattle.cfi_perf.specs.declared.record.Event.TheVariants.{Mapping as MappingOfCode}
use Rattle.cfi_perf.specs.declared.record.Event.TheVariants.{Program as ProgramOfCode}
use Rattle.cfi_perf.specs.declared.record.Event.TheVariants.{Fork as ForkOfCode}
use Rattle.cfi_perf.specs.declared.record.Event.TheVariants.{Sample as SampleOfCode}
use Rattle.cfi_perf.specs.declared.record.Event.TheVariants.{Other as OtherOfCode}
use Rattle.cfi_perf.specs.declared.record.Mapping.{Mapping as MappingFields}
use Rattle.cfi_perf.specs.declared.record.Program.{Program as ProgramFields}
use Rattle.cfi_perf.specs.declared.record.Event.TheVariants.{Lost as LostOfCode}
use Rattle.cfi_perf.specs.declared.record.Fork.{Fork}
use Rattle.cfi_perf.specs.declared.record.Lost.{Lost}
use Rattle.cfi_perf.specs.declared.record_fields.MappedRange.{MappedRange}
use Rattle.cfi_perf.specs.Results.{and_then, or_error}
use Rattle.cfi_perf.specs.ByteReads.{before_zero, read_from}
use Rattle.cfi_perf.specs.CountedIds.{count_at, counted_id}
use Rattle.cfi_perf.specs.Layouts.{has_any}
use Rattle.cfi_perf.specs.Samples.{Sample, sample_view, thread}

-- ---- what a record says

pub record Mapping : Type 0 where
  pub pid : ℕ
  pub address : ℕ
  pub length : ℕ
  pub offset : ℕ
  pub is_executable : Bool
  pub name : List ℕ
  pub build_id : Option (List ℕ)  -- of the file, if it is known

pub record NamedProgram : Type 0 where
  pub pid : ℕ
  pub tid : ℕ
  pub name : List ℕ
  pub is_exec : Bool

pub data Event : Type 0 where
  MappingEvent : Mapping → Event
  ProgramEvent : NamedProgram → Event
  ForkEvent : Fork → Event
  SampleEvent : Sample → Event
  LostEvent : Lost → Event
  OtherEvent : Event

pub record Record : Type 0 where
  pub time : ℕ
  pub event : Event

-- what these are in the code
abbrev pub mapping_record_view : MappingFields → Mapping
mapping_record_view m = record {
  pid = m.pid;
  address = m.address;
  length = m.length;
  offset = m.offset;
  is_executable = m.is_executable;
  name = m.name.now;
  build_id = option_map (λ id. id.now) m.build_id;
}

abbrev pub program_view : ProgramFields → NamedProgram
program_view p = record { pid = p.pid; tid = p.tid; name = p.name.now; is_exec = p.is_exec }

abbrev pub event_view : EventOfCode → Event
event_view (MappingOfCode m) = MappingEvent (mapping_record_view m)
event_view (ProgramOfCode p) = ProgramEvent (program_view p)
event_view (ForkOfCode f) = ForkEvent f
event_view (SampleOfCode s) = SampleEvent (sample_view s)
event_view (LostOfCode l) = LostEvent l
event_view OtherOfCode = OtherEvent

abbrev pub record_view : RecordOfCode → Record
record_view r = record { time = r.time; event = event_view r.event }

-- ---- mapped files

-- where PERF_RECORD_MISC_MMAP_BUILD_ID (1 << 14) is set, PERF_RECORD_MMAP2 has a count and the id
-- in place of maj, min, ino and ino_generation
abbrev pub own_build_id : ℕ → List ℕ → Option (List ℕ)
own_build_id misc fields =
    if has_any 0x4000 misc then counted_id (count_at 32 fields) (drop 36 fields) else None

-- the fields of both records up to pgoff
unfoldable pub mapped_range : Read MappedRange
mapped_range = do
  pid ← unsigned w32
  tid ← unsigned w32
  address ← unsigned w64
  length ← unsigned w64
  offset ← unsigned w64
  give (record { pid = pid; address = address; length = length; offset = offset })

abbrev pub mapping_of : MappedRange → Bool → List ℕ → Option (List ℕ) → Mapping
mapping_of range is_executable name build_id =
    record {
      pid = range.pid;
      address = range.address;
      length = range.length;
      offset = range.offset;
      is_executable = is_executable;
      name = name;
      build_id = build_id;
    }

-- PERF_RECORD_MMAP: the name follows. PERF_RECORD_MISC_MMAP_DATA is 1 << 13
unfoldable pub mapping : Bool → ℕ → List ℕ → Result Mapping PerfError
mapping big misc fields =
    and_then (or_error RecordCut (read_from big fields mapped_range)) (λ range.
    and_then (ok_or (before_zero (drop 32 fields)) RecordCut) (λ name.
    Ok (mapping_of range (not (has_any 0x2000 misc)) name None)))

-- PERF_RECORD_MMAP2: after 24 bytes that say which file it is, prot, flags and the name. PROT_EXEC
-- is 4
unfoldable pub mapping2 : Bool → ℕ → List ℕ → Result Mapping PerfError
mapping2 big misc fields =
    and_then (or_error RecordCut (read_from big fields mapped_range)) (λ range.
    and_then (or_error RecordCut (read_from big (drop 56 fields) (unsigned w32))) (λ prot.
    and_then (ok_or (before_zero (drop 64 fields)) RecordCut) (λ name.
    Ok (mapping_of range (has_any 0x4 prot) name (own_build_id misc fields)))))

-- ---- programs and processes

-- PERF_RECORD_COMM. PERF_RECORD_MISC_COMM_EXEC is 1 << 13
unfoldable pub program : Bool → ℕ → List ℕ → Result NamedProgram PerfError
program big misc fields =
    and_then (or_error RecordCut (read_from big fields thread)) (λ thread.
    and_then (ok_or (before_zero (drop 8 fields)) RecordCut) (λ name.
    Ok (record { pid = thread.pid; tid = thread.tid; name = name; is_exec = has_any 0x2000 misc })))

-- PERF_RECORD_FORK, up to the thread that made it
unfoldable pub fork : Read Fork
fork = do
  pid ← unsigned w32
  parent ← unsigned w32
  tid ← unsigned w32
  parent_tid ← unsigned w32
  give (record { pid = pid; parent = parent; tid = tid; parent_tid = parent_tid })

-- ---- what was lost

-- PERF_RECORD_LOST: the event's id, and how many records
unfoldable pub lost : Read Lost
lost = do
  id ← unsigned w64
  count ← unsigned w64
  give (record { records = count; samples = 0 })

-- PERF_RECORD_LOST_SAMPLES: how many samples
unfoldable pub lost_samples : Read Lost
lost_samples = do
  count ← unsigned w64
  give (record { records = 0; samples = count })
