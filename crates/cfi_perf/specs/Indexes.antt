-- The records of a profile whose samples stay in the file.
--     record_in walk all kept place      the record at a place: of the bytes of all records, which
--         are in the file, or of those that were kept
--     AreIndexed walk all index records      the places of an index are those of these records, in
--         this order
--     AreIndexedSorted walk all index records      they are those of these records by time
--     place_for record offset size kept      the place of a record that is added
--     IsOfBytes walk all record offset bytes      a record is the one that these bytes are, which
--         are those at the offset; or it says nothing
use Rattle.std.specs.Prelude.{◌≡◌, ◌⊎◌, ◌≤◌, ℕ, ◌+◌, List, [], ◌∷◌, length, slice_range, Result}
use Rattle.std.specs.Prelude.{Ok}
use Rattle.std.specs.List.Sorted.{IsSortedByKey, IsStableByKey}
use Rattle.std.specs.Ordering.{nat_cmp}
use Rattle.cfi_perf.specs.declared.error.PerfError.{PerfError}
use Rattle.cfi_perf.specs.declared.index.PlaceKind.{PlaceKind}
use Rattle.cfi_perf.specs.declared.index.PlaceKind.TheVariants.{InFile, Kept, Nothing}
use Rattle.cfi_perf.specs.declared.index.RecordIndex.{RecordIndex}
use Rattle.cfi_perf.specs.declared.index.RecordPlace.{RecordPlace}
use Rattle.cfi_perf.specs.declared.windows.RecordWalk.{RecordWalk}
use Rattle.cfi_perf.specs.Events.{Event, OtherEvent, Record, SampleEvent}
use Rattle.cfi_perf.specs.Windows.{record_alone}

abbrev pub record_bytes : RecordPlace → List ℕ → List ℕ
record_bytes place bytes = slice_range bytes place.offset (place.offset + place.size)

abbrev pub record_by :
    PlaceKind → RecordWalk → List ℕ → List ℕ → RecordPlace → Result Record PerfError
record_by InFile walk all kept place = record_alone walk (record_bytes place all)
record_by Kept walk all kept place = record_alone walk (record_bytes place kept)
record_by Nothing walk all kept place = Ok (record { time = place.time; event = OtherEvent })

abbrev pub record_in : RecordWalk → List ℕ → List ℕ → RecordPlace → Result Record PerfError
record_in walk all kept place = record_by place.kind walk all kept place

-- that a place is one of the bytes that were kept, if it is to be
abbrev pub IsWithinKept : PlaceKind → ℕ → RecordPlace → Type 0
IsWithinKept Kept count place = place.offset + place.size ≤ count
IsWithinKept _ count place = Unit {0}

-- ---- all, in order

abbrev pub IsRecordAt : RecordWalk → List ℕ → List ℕ → RecordPlace → Record → Type 0
IsRecordAt walk all kept place r =
    (place.time ≡ r.time) × (record_in walk all kept place ≡ Ok r)
    × IsWithinKept place.kind (length kept) place

abbrev pub AreAt : RecordWalk → List ℕ → List ℕ → List RecordPlace → List Record → Type 0
AreAt walk all kept [] records = records ≡ []
AreAt walk all kept (place ∷ places) records =
    (r : Record) × (others : List Record) × (records ≡ r ∷ others)
    × IsRecordAt walk all kept place r × AreAt walk all kept places others

abbrev pub places_of : RecordIndex → List RecordPlace
places_of index = index.places.items

abbrev pub kept_of : RecordIndex → List ℕ
kept_of index = index.kept.items

abbrev pub AreIndexed : RecordWalk → List ℕ → RecordIndex → List Record → Type 0
AreIndexed walk all index records =
    AreAt walk all index.kept.items index.places.items records

-- ---- one more

-- what is kept of a record: nothing of a sample, nor of one that says nothing
abbrev pub kept_bytes : Event → List ℕ → List ℕ
kept_bytes (SampleEvent s) bytes = []
kept_bytes OtherEvent bytes = []
kept_bytes _ bytes = bytes

-- where its bytes are, and the place that it is given: its own, or that after those that were kept
abbrev pub place_kind : Event → PlaceKind
place_kind (SampleEvent s) = InFile
place_kind OtherEvent = Nothing
place_kind _ = Kept

abbrev pub offset_for : PlaceKind → ℕ → ℕ → ℕ
offset_for Kept offset kept = kept
offset_for _ offset kept = offset

abbrev pub place_for : Record → ℕ → ℕ → ℕ → RecordPlace
place_for r offset size kept = record {
  time = r.time;
  offset = offset_for (place_kind r.event) offset kept;
  size = size;
  kind = place_kind r.event;
}

abbrev pub IsOfBytes : RecordWalk → List ℕ → Record → ℕ → List ℕ → Type 0
IsOfBytes walk all r offset bytes =
    (r.event ≡ OtherEvent)
    ⊎ ((record_alone walk bytes ≡ Ok r)
    × (slice_range all offset (offset + length bytes) ≡ bytes))

-- ---- in the order of their times

-- those of one time stay in their order
pub record IsInTimeOrder (records sorted : List Record) : Type 0 where
  pub by_time : IsSortedByKey (λ r. r.time) nat_cmp sorted
  pub stable : IsStableByKey (λ r. r.time) nat_cmp records sorted

-- that the places of an index are those of these records, sorted
abbrev pub AreIndexedSorted : RecordWalk → List ℕ → RecordIndex → List Record → Type 0
AreIndexedSorted walk all index records =
    (sorted : List Record) × AreIndexed walk all index sorted × IsInTimeOrder records sorted
