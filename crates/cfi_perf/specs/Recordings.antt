-- What the records of a profile say of the recording.
--     lost_in records      how many records and samples were lost: the sums over the records
--     lacks_stacks records      whether there are samples, and the event of none of them copies
--         stacks
use Rattle.std.specs.Prelude.{ℕ, ◌-◌, ◌^◌, Bool, true, false, not, ◌&&◌, List, min}
use Rattle.std.specs.List.{list_any, sum_by}
use Rattle.cfi_perf.specs.declared.record.Lost.{Lost}
use Rattle.cfi_perf.specs.Events.{Event, Record, LostEvent, SampleEvent}

-- PERF_RECORD_LOST and PERF_RECORD_LOST_SAMPLES
abbrev pub lost_of : Event → Lost
lost_of (LostEvent l) = l
lost_of _ = record { records = 0; samples = 0 }

-- 2 ^ 64 - 1 where the sum is more
abbrev pub total : (Lost → ℕ) → List Record → ℕ
total count records = min (sum_by (λ r. count (lost_of r.event)) records) (2 ^ 64 - 1)

abbrev pub lost_in : List Record → Lost
lost_in records = record {
  records = total (λ l. l.records) records;
  samples = total (λ l. l.samples) records;
}

abbrev pub is_sample : Event → Bool
is_sample (SampleEvent s) = true
is_sample _ = false

abbrev pub is_stack_sample : Event → Bool
is_stack_sample (SampleEvent s) = s.copies_stack
is_stack_sample _ = false

abbrev pub has_samples : List Record → Bool
has_samples records = list_any (λ r. is_sample r.event) records

abbrev pub has_stacks : List Record → Bool
has_stacks records = list_any (λ r. is_stack_sample r.event) records

abbrev pub lacks_stacks : List Record → Bool
lacks_stacks records = has_samples records && not (has_stacks records)
