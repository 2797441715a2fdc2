-- The records of bytes of which only a window is at hand.
--     IsWindow window others left      the window is followed by these other bytes, and has enough
--         of the bytes that are left to read the first record
--     record_bytes_left walk, next_place walk      how many bytes are left, and where the next
--         record is
--     records_in walk bytes      those that a walk of the code finds in the bytes that it has left
--     record_alone walk bytes      the record that these bytes are, with nothing after it
--     frame_of_window, first_of_window      what the code finds in a window, of all bytes
use Rattle.std.specs.Prelude.{◌≡◌, ◌⊎◌, ◌≤◌, ℕ, ◌+◌, ◌-◌, List, drop, length, min, Option, Some}
use Rattle.std.specs.Prelude.{Result, Ok, Err, ◌==◌, if◌then◌else◌}
use Rattle.cfi_read_core.specs.ByteOrder.{is_big}
use Rattle.cfi_perf.specs.declared.error.PerfError.{PerfError}
use Rattle.cfi_perf.specs.declared.error.PerfError.TheVariants.{RecordCut}
use Rattle.cfi_perf.specs.Results.{and_then}
use Rattle.cfi_perf.specs.declared.windows.RecordWalk.{RecordWalk}
use Rattle.cfi_perf.specs.declared.windows.FramedIn.{FramedIn}
use Rattle.cfi_perf.specs.declared.windows.FirstIn.{FirstIn}
use Rattle.cfi_perf.specs.EventTables.{event_table_view}
use Rattle.cfi_perf.specs.Events.{OtherEvent, Record, record_view}
use Rattle.cfi_perf.specs.Records.{FirstRecord, Records, first_record, records_of, until_cut}
use Rattle.cfi_perf.specs.RecordFrames.{FramedRecord}

-- The size of a record is a number of 16 bits (struct perf_event_header).
pub record IsWindow (window others : List ℕ) (left : ℕ) : Type 0 where
  pub all : length window + length others ≡ left
  pub enough : min 65535 left ≤ length window

-- ---- what the code finds

abbrev pub frame_of_window : List ℕ → FramedIn → FramedRecord
frame_of_window bytes f =
    record { header = f.header; body = f.body.now; others = drop f.size bytes }

abbrev pub first_of_window : List ℕ → FirstIn → FirstRecord
first_of_window bytes f = record { first = record_view f.first; others = drop f.size bytes }

-- ---- a walk

abbrev pub records_in : RecordWalk → List ℕ → Records
records_in walk bytes =
    until_cut walk.is_cut (records_of (event_table_view walk.events) (is_big walk.endian) bytes)

abbrev pub record_bytes_left : RecordWalk → ℕ
record_bytes_left walk = walk.left

-- where the next record is in the file
abbrev pub next_place : RecordWalk → ℕ
next_place walk = walk.end - walk.left

-- how many bytes were passed
abbrev pub bytes_passed : RecordWalk → RecordWalk → ℕ
bytes_passed old new = old.left - new.left

-- the first record, if no bytes follow it
abbrev pub only_record : FirstRecord → Result Record PerfError
only_record found = if length found.others == 0 then Ok found.first else Err RecordCut

abbrev pub record_alone : RecordWalk → List ℕ → Result Record PerfError
record_alone walk bytes =
    and_then (first_record (event_table_view walk.events) (is_big walk.endian) bytes) only_record

-- that the records are read on as before, where one was found
abbrev pub ReadsOn : RecordWalk → RecordWalk → Result (Option Record) PerfError → Type 0
ReadsOn old new (Ok (Some r)) = (bytes : List ℕ) → records_in new bytes ≡ records_in old bytes
ReadsOn old new _ = Unit {0}

-- that a record is the one that these bytes are
abbrev pub IsAlone : RecordWalk → List ℕ → Result (Option Record) PerfError → Type 0
IsAlone walk bytes (Ok (Some r)) = record_alone walk bytes ≡ Ok r
IsAlone walk bytes _ = Unit {0}

-- that the bytes that were passed are among the first of these, but for records that say nothing:
-- after those may be a trace
abbrev pub PassesWithin : ℕ → ℕ → Result (Option Record) PerfError → Type 0
PassesWithin count window (Ok (Some r)) = (r.event ≡ OtherEvent) ⊎ (count ≤ window)
PassesWithin count window _ = Unit {0}
