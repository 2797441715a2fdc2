-- The fields of a sample that other records have at their end (perf_event_open(2), struct
-- sample_id).
--     without_id events big kind body      a record's fields before those, and its time
use Rattle.std.specs.Prelude.{ℕ, ◌-◌, ◌*◌, Bool, not, ◌||◌, List, length, drop, take, Result, Ok}
use Rattle.std.specs.Prelude.{Err, count_ones, bit_and, nat_lt, nat_le, if◌then◌else◌}
use Rattle.cfi_read_core.specs.ReadFunctions.{Read, ◌>>=◌}
use Rattle.cfi_perf.specs.declared.error.PerfError.{PerfError}
use Rattle.cfi_perf.specs.declared.error.PerfError.TheVariants.{RecordCut}
use Rattle.cfi_perf.specs.declared.layout.EventLayout.{EventLayout}
use Rattle.cfi_perf.specs.declared.sample_id.WithoutId.{WithoutId as WithoutIdOfCode}
use Rattle.cfi_perf.specs.Results.{and_then, or_error}
use Rattle.cfi_perf.specs.ByteReads.{read_from}
use Rattle.cfi_perf.specs.Layouts.{has, PERF_SAMPLE_TID, PERF_SAMPLE_TIME}
use Rattle.cfi_perf.specs.EventTables.{EventTable, layout_of_other}
use Rattle.cfi_perf.specs.Samples.{number_if}

-- TID, TIME, ID, STREAM_ID, CPU, IDENTIFIER: eight bytes for each that samples have
abbrev pub sample_id_size : EventLayout → ℕ
sample_id_size layout = 8 * count_ones (bit_and layout.sample_type 0x102c6)

unfoldable pub sample_id_time : EventLayout → Read ℕ
sample_id_time layout = do
  thread ← number_if (has PERF_SAMPLE_TID layout)
  number_if (has PERF_SAMPLE_TIME layout)

-- A record's fields before those, and its time.
pub record WithoutId : Type 0 where
  pub time : ℕ
  pub fields : List ℕ

abbrev pub without_id_view : WithoutIdOfCode → WithoutId
without_id_view r = record { time = r.time; fields = r.fields.now }

abbrev pub split_id : EventLayout → Bool → List ℕ → ℕ → Result WithoutId PerfError
split_id layout big body length' =
    and_then (or_error RecordCut (read_from big (drop length' body) (sample_id_time layout)))
    (λ time.
    Ok (record { time = time; fields = take length' body }))

abbrev pub without_id_by : EventLayout → Bool → List ℕ → Result WithoutId PerfError
without_id_by layout big body =
    if nat_lt (length body) (sample_id_size layout) then Err RecordCut
    else split_id layout big body (length body - sample_id_size layout)

-- the records of perf itself, from 64 on, have none
unfoldable pub without_id : EventTable → Bool → ℕ → List ℕ → Result WithoutId PerfError
without_id events big kind body =
    if not events.first.layout.sample_id_all || nat_le 64 kind
    then Ok (record { time = 0; fields = body })
    else without_id_by (layout_of_other events body) big body
