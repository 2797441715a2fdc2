-- The records of a profile, one after the other.
--     records_of events big bytes      the records of these bytes in order, and the error that
--         ended them
--     records_left walk      those that an iterator of the code has left
use Rattle.std.specs.Prelude.{◌≡◌, ℕ, zero, suc, Bool, List, [], ◌∷◌, ◌++◌, map, length, Option}
use Rattle.std.specs.Prelude.{Some, None, Result, Ok, Err, ◌==◌, if◌then◌else◌}
use Rattle.cfi_read_core.specs.ByteOrder.{is_big}
use Rattle.cfi_perf.specs.declared.error.PerfError.{PerfError}
use Rattle.cfi_perf.specs.declared.error.PerfError.TheVariants.{DataOutOfBounds, RecordCut}
use Rattle.cfi_perf.specs.declared.records.Records.{Records as RecordsOfCode}
use Rattle.cfi_perf.specs.declared.records.First.{First as FirstOfCode}
use Rattle.cfi_perf.specs.Results.{and_then}
use Rattle.cfi_perf.specs.EventTables.{EventTable, event_table_view}
use Rattle.cfi_perf.specs.Events.{Record, record_view}
use Rattle.cfi_perf.specs.RecordFrames.{split_record}
use Rattle.cfi_perf.specs.RecordTypes.{record_by_type}

-- ---- all records

-- The first record, and the bytes that follow.
pub record FirstRecord : Type 0 where
  pub first : Record
  pub others : List ℕ

abbrev pub first_record_view : FirstOfCode → FirstRecord
first_record_view f = record { first = record_view f.first; others = f.others.now }

unfoldable pub first_record : EventTable → Bool → List ℕ → Result FirstRecord PerfError
first_record events big bytes =
    and_then (split_record big bytes) (λ found.
    and_then (record_by_type events big found.header found.body) (λ first.
    Ok (record { first = first; others = found.others })))

-- Records in order, and the error that ended them, if one did.
pub record Records : Type 0 where
  pub records : List Record
  pub error : Option PerfError

abbrev pub no_records : Option PerfError → Records
no_records error = record { records = []; error = error }

abbrev pub with_record : Record → Records → Records
with_record r others = record { records = r ∷ others.records; error = others.error }

-- the first record, and those of the bytes that follow
abbrev pub records_with : Result FirstRecord PerfError → (List ℕ → Records) → Records
records_with (Err e) others = no_records (Some e)
records_with (Ok found) others = with_record found.first (others found.others)

-- at most n
unfoldable pub records_up_to : ℕ → EventTable → Bool → List ℕ → Records
records_up_to zero events big bytes = no_records None
records_up_to (suc n) events big bytes =
    if length bytes == 0 then no_records None
    else records_with (first_record events big bytes) (records_up_to n events big)

-- all: each takes a byte at least
abbrev pub records_of : EventTable → Bool → List ℕ → Records
records_of events big bytes = records_up_to (length bytes) events big bytes

-- where the file ends before the records do, that is what ends them, also within one
abbrev pub cut_error : Option PerfError → PerfError
cut_error None = DataOutOfBounds
cut_error (Some RecordCut) = DataOutOfBounds
cut_error (Some e) = e

abbrev pub until_cut : Bool → Records → Records
until_cut is_cut all = record {
  records = all.records;
  error = if is_cut then Some (cut_error all.error) else all.error;
}

-- ---- as the items of an iterator

abbrev pub error_item : Option PerfError → List (Result Record PerfError)
error_item None = []
error_item (Some e) = Err e ∷ []

-- each record, and the error
abbrev pub record_items : Records → List (Result Record PerfError)
record_items all = map Ok all.records ++ error_item all.error

-- ---- the iterator of the code

abbrev pub records_left : RecordsOfCode → Records
records_left walk =
    until_cut walk.is_cut
    (records_of (event_table_view walk.events) (is_big walk.endian) walk.bytes.now)

-- What `next` returned: the first of the records that were left, or the error that ends them. After
-- an error none are left.
abbrev pub IsNextRecord : Result (Option Record) PerfError → Records → Records → Type 0
IsNextRecord (Ok None) old new = (old ≡ no_records None) × (new ≡ no_records None)
IsNextRecord (Ok (Some r)) old new = old ≡ with_record r new
IsNextRecord (Err e) old new = (old ≡ no_records (Some e)) × (new ≡ no_records None)
