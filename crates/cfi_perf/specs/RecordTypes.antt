-- What a record says, by its type (perf_event_open(2), "MMAP layout").
--     record_by_type events big header body      the record of this header and these other bytes
use Rattle.std.specs.Prelude.{ℕ, Bool, ◌||◌, List, Option, Some, None, Result, Ok, Err, ◌==◌}
use Rattle.std.specs.Prelude.{if◌then◌else◌}
use Rattle.cfi_read_core.specs.ReadFunctions.{Read}
use Rattle.cfi_read_core.specs.ReaderCalls.{map_ok}
use Rattle.cfi_perf.specs.declared.error.PerfError.{PerfError}
use Rattle.cfi_perf.specs.declared.error.PerfError.TheVariants.{Compressed, RecordCut}
use Rattle.cfi_perf.specs.declared.record.Lost.{Lost}
use Rattle.cfi_perf.specs.declared.record_frame.RecordHeader.{RecordHeader}
use Rattle.cfi_perf.specs.Results.{and_then, or_error}
use Rattle.cfi_perf.specs.ByteReads.{read_from}
use Rattle.cfi_perf.specs.EventTables.{EventTable, ProfileEvent, event_of_sample}
use Rattle.cfi_perf.specs.Samples.{TimedSample, sample}
use Rattle.cfi_perf.specs.Events.{Record, Event, MappingEvent, ProgramEvent, ForkEvent, SampleEvent}
use Rattle.cfi_perf.specs.Events.{LostEvent, OtherEvent, mapping, mapping2, program, fork, lost}
use Rattle.cfi_perf.specs.Events.{lost_samples, Mapping}
use Rattle.cfi_perf.specs.BuildIds.{with_build_id}
use Rattle.cfi_perf.specs.SampleIds.{without_id}

abbrev pub fork_event : Bool → List ℕ → Result Event PerfError
fork_event big fields = map_ok ForkEvent (or_error RecordCut (read_from big fields fork))

abbrev pub lost_event : Bool → Read Lost → List ℕ → Result Event PerfError
lost_event big read fields = map_ok LostEvent (or_error RecordCut (read_from big fields read))

abbrev pub mapping_event : EventTable → Bool → Mapping → Event
mapping_event events big m = MappingEvent (with_build_id big events.build_ids m)

abbrev pub event_of : EventTable → Bool → RecordHeader → List ℕ → Result Event PerfError
event_of events big header fields =
    if header.kind == 1
    then map_ok (mapping_event events big) (mapping big header.misc fields)
    else if header.kind == 2 then lost_event big lost fields
    else if header.kind == 3 then map_ok ProgramEvent (program big header.misc fields)
    else if header.kind == 7 then fork_event big fields
    else if header.kind == 10
    then map_ok (mapping_event events big) (mapping2 big header.misc fields)
    else if header.kind == 13 then lost_event big lost_samples fields
    else Ok OtherEvent

abbrev pub sample_record : TimedSample → Record
sample_record timed = record { time = timed.time; event = SampleEvent timed.sample }

abbrev pub known_sample : ProfileEvent → Bool → ℕ → List ℕ → Result Record PerfError
known_sample event big misc body =
    map_ok sample_record (or_error RecordCut (read_from big body (sample event misc)))

-- a sample of none of the events says nothing
abbrev pub sample_of : Option ProfileEvent → Bool → ℕ → List ℕ → Result Record PerfError
sample_of None big misc body = Ok (record { time = 0; event = OtherEvent })
sample_of (Some event) big misc body = known_sample event big misc body

-- a sample (9), compressed records (81 and 83), or another record
unfoldable pub record_by_type : EventTable → Bool → RecordHeader → List ℕ → Result Record PerfError
record_by_type events big header body =
    if header.kind == 9 then sample_of (event_of_sample events body) big header.misc body
    else if (header.kind == 81) || (header.kind == 83) then Err Compressed
    else and_then (without_id events big header.kind body) (λ found.
    and_then (event_of events big header found.fields) (λ event.
    Ok (record { time = found.time; event = event })))
