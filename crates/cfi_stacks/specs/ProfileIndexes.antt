-- The index of a profile's records, of which the samples stay in the file.
--     records_bytes walk file      the bytes of the records, among those of the file
--     Piece, IsPieceOf known walk kept piece      a record with its place and its own bytes: those
--         of the file, where these are known
--     IsIndexOf known index pieces      these may be the records of an index, in its order
--     IsReadAt known index place record      this may be the record at a place, read again
--     HoldsOf known index Is      there may be records of an index of which this holds
--     IsTallyOf tally records      what was told of the recording is what these records say
--     IsTallySaid Said tally      what it shows was said
--     AreRecordsOf known index sorted      there are bytes of which these are the records by their
--         times: those of the file, where these are known
--     IsReadAround known before behind count      there are so many bytes that begin and end so:
--         those of the file, where these are known
use Rattle.std.specs.Prelude.{◌≡◌, ◌==◌, ◌≤◌, ℕ, ◌+◌, true, false, not, ◌&&◌, List, ◌++◌, drop}
use Rattle.std.specs.Prelude.{length, map}
use Rattle.std.specs.Prelude.{Option, Some, None, Ok, IfSome, slice_range, if◌then◌else◌}
use Rattle.std.specs.List.{All, Contains, flat_map}
use Rattle.std.specs.List.Sorted.{IsSortedByKey}
use Rattle.std.specs.Ordering.{nat_cmp}
use Rattle.cfi_text.specs.Readings.{AreLeft}
use Rattle.cfi_perf.specs.declared.index.PlaceKind.{PlaceKind}
use Rattle.cfi_perf.specs.declared.index.PlaceKind.TheVariants.{InFile, Kept, Nothing}
use Rattle.cfi_perf.specs.declared.index.RecordPlace.{RecordPlace}
use Rattle.cfi_perf.specs.declared.windows.RecordWalk.{RecordWalk}
use Rattle.cfi_perf.specs.Events.{Event, OtherEvent, Record}
use Rattle.cfi_perf.specs.Indexes.{AreIndexed, AreIndexedSorted, IsInTimeOrder, IsWithinKept}
use Rattle.cfi_perf.specs.Indexes.{record_bytes}
use Rattle.cfi_perf.specs.Indexes.{kept_of, places_of}
use Rattle.cfi_perf.specs.ProfilesAround.{IsAround}
use Rattle.cfi_perf.specs.Recordings.{has_samples, has_stacks, is_sample, lost_in}
use Rattle.cfi_perf.specs.Records.{no_records}
use Rattle.cfi_perf.specs.Windows.{record_alone, records_in}
use Rattle.cfi_perf.specs.Windows.{record_bytes_left, next_place}
use Rattle.cfi_mapped.specs.Notices.{Notice, lost, without_stacks}
use Rattle.cfi_mapped.specs.WantedFiles.{has_kernel_frames}
use Rattle.cfi_stacks.specs.declared.profile_index.ProfileIndex.{ProfileIndex}
use Rattle.cfi_stacks.specs.declared.profile_index.Tally.{Tally}

-- ---- bytes

-- that the file has so many at this place, if it is known
abbrev pub HasRecordsAt : Option (List ℕ) → ℕ → ℕ → Type 0
HasRecordsAt known place size =
    IfSome known (λ file. length (slice_range file place (place + size)) ≡ size)

-- that they may be those of the records: they are, if the file is known
abbrev pub AreBytesAt : Option (List ℕ) → ℕ → ℕ → List ℕ → Type 0
AreBytesAt known place size all =
    (length all ≡ size) × IfSome known (λ file. all ≡ slice_range file place (place + size))

-- those of a walk that is at the first record
abbrev pub records_bytes : RecordWalk → List ℕ → List ℕ
records_bytes walk file =
    slice_range file (next_place walk) (next_place walk + record_bytes_left walk)

abbrev pub HasRecords : Option (List ℕ) → RecordWalk → Type 0
HasRecords known walk = HasRecordsAt known (next_place walk) (record_bytes_left walk)

abbrev pub AreBytesOf : Option (List ℕ) → RecordWalk → List ℕ → Type 0
AreBytesOf known walk all = AreBytesAt known (next_place walk) (record_bytes_left walk) all

-- a part of them that was read
abbrev pub IsRecordsPart : Option (List ℕ) → RecordWalk → ℕ → ℕ → List ℕ → Type 0
IsRecordsPart known walk offset size bytes =
    (length bytes ≡ size)
    × IfSome known
    (λ file.
    offset + size ≤ record_bytes_left walk →
    slice_range (records_bytes walk file) offset (offset + size) ≡ bytes)

-- ---- records

pub record Piece : Type 0 where
  pub place : RecordPlace
  pub bytes : List ℕ
  pub found : Record

abbrev pub piece_place : Piece → RecordPlace
piece_place piece = piece.place

abbrev pub record_of : Piece → Record
record_of piece = piece.found

abbrev pub all_bytes : List Piece → List ℕ
all_bytes pieces = flat_map (λ piece. piece.bytes) pieces

-- a sample is in the file, of another record the bytes are kept; one that says nothing has none
abbrev pub IsPlacedIn :
    PlaceKind → Option (List ℕ) → RecordWalk → List ℕ → Piece → Type 0
IsPlacedIn InFile known walk kept piece =
    (length piece.bytes ≡ piece.place.size)
    × (piece.place.offset + piece.place.size ≤ record_bytes_left walk)
    × (is_sample piece.found.event ≡ true)
    × IfSome known (λ file. record_bytes piece.place (records_bytes walk file) ≡ piece.bytes)
IsPlacedIn Kept known walk kept piece =
    (record_alone walk (record_bytes piece.place kept) ≡ Ok piece.found)
    × IsWithinKept Kept (length kept) piece.place × (is_sample piece.found.event ≡ false)
IsPlacedIn Nothing known walk kept piece = piece.found.event ≡ OtherEvent

pub record IsPieceOf (known : Option (List ℕ)) (walk : RecordWalk) (kept : List ℕ) (piece : Piece) :
    Type 0 where
  pub alone : record_alone walk piece.bytes ≡ Ok piece.found
  pub time : piece.place.time ≡ piece.found.time
  pub placed : IsPlacedIn piece.place.kind known walk kept piece

-- where the first sample with frames of the kernel is, if there is one
abbrev pub IsKernelAt : Option ℕ → List Piece → Type 0
IsKernelAt None pieces = All (λ piece. has_kernel_frames piece.found.event ≡ false) pieces
IsKernelAt (Some offset) pieces =
    (piece : Piece) × Contains pieces piece × (piece.place.kind ≡ InFile)
    × (piece.place.offset ≡ offset) × (has_kernel_frames piece.found.event ≡ true)

abbrev pub kernel_after : Option ℕ → ℕ → Event → Option ℕ
kernel_after (Some first) offset event = Some first
kernel_after None offset event = if has_kernel_frames event then Some offset else None

-- what samples have, and what was lost
pub record IsTallyOf (tally : Tally) (records : List Record) : Type 0 where
  pub samples : tally.has_samples ≡ has_samples records
  pub stacks : tally.has_stacks ≡ has_stacks records
  pub lost : tally.lost_records ≡ (lost_in records).records
  pub lost_samples : tally.lost_samples ≡ (lost_in records).samples

-- what it shows was said: that no sample has a copy of a stack, and how much was lost
pub record IsTallySaid (Said : Notice → Type 0) (tally : Tally) : Type 0 where
  pub copies : (tally.has_samples && not tally.has_stacks) ≡ true → Said without_stacks
  pub losses :
      (tally.lost_records == 0 && tally.lost_samples == 0) ≡ false →
      Said (lost tally.lost_records tally.lost_samples)

-- ---- an index

-- as far as a walk has come, in the order of the file
pub record IsFoundOf (known : Option (List ℕ)) (index : ProfileIndex) (walk : RecordWalk)
    (pieces : List Piece) :
    Type 0 where
  pub places : map piece_place pieces ≡ places_of index.records
  pub each : All (IsPieceOf known index.walk (kept_of index.records)) pieces
  pub kernel : IsKernelAt index.kernel pieces
  pub tally : IsTallyOf index.tally (map record_of pieces)
  pub no_error : index.error ≡ None
  pub left : length (all_bytes pieces) + record_bytes_left walk ≡ record_bytes_left index.walk
  pub walk_on : (bytes : List ℕ) → records_in walk bytes ≡ records_in index.walk bytes
  pub alone : (bytes : List ℕ) → record_alone walk bytes ≡ record_alone index.walk bytes
  pub indexed : IfSome known (λ file.
      AreIndexed index.walk (records_bytes index.walk file) index.records
      (map record_of pieces))

-- a window is of the bytes that are left
abbrev pub IsWindowIn :
    Option (List ℕ) → ProfileIndex → RecordWalk → List Piece → List ℕ → Type 0
IsWindowIn known index walk pieces window =
    (length window ≤ record_bytes_left walk)
    × IfSome known
    (λ file.
    (behind : List ℕ)
    × (records_bytes index.walk file ≡ all_bytes pieces ++ (window ++ behind)))

-- all were found: after the last there is no more, or an error
pub record IsWholeOf (known : Option (List ℕ)) (index : ProfileIndex) (pieces : List Piece)
    (rest : List ℕ) :
    Type 0 where
  pub places : map piece_place pieces ≡ places_of index.records
  pub each : All (IsPieceOf known index.walk (kept_of index.records)) pieces
  pub kernel : IsKernelAt index.kernel pieces
  pub tally : IsTallyOf index.tally (map record_of pieces)
  pub ends : records_in index.walk rest ≡ no_records index.error
  pub left : length (all_bytes pieces) + length rest ≡ record_bytes_left index.walk
  pub file : IfSome known (λ file.
      (records_bytes index.walk file ≡ all_bytes pieces ++ rest)
      × AreIndexed index.walk (records_bytes index.walk file) index.records
      (map record_of pieces))

-- what a step of the walk found: one more record, of which so many bytes of the window are; or the
-- end
abbrev pub IsNextIn :
    Option (List ℕ) → ProfileIndex → RecordWalk → List ℕ → Option ℕ → Type 0
IsNextIn known index walk window (Some size) =
    (pieces : List Piece) × IsFoundOf known index walk pieces
    × IsWindowIn known index walk pieces (drop size window)
IsNextIn known index walk window None =
    (pieces : List Piece) × (rest : List ℕ) × IsWholeOf known index pieces rest

-- the records of an index, by the bytes of its file
abbrev pub IsIndexOfFile : ProfileIndex → List ℕ → Type 0
IsIndexOfFile index file =
    (records : List Record)
    × (records_in index.walk (records_bytes index.walk file)
    ≡ record { records = records; error = index.error })
    × (length (records_bytes index.walk file) ≡ record_bytes_left index.walk)
    × AreIndexedSorted index.walk (records_bytes index.walk file) index.records records

pub record IsIndexOf (known : Option (List ℕ)) (index : ProfileIndex) (pieces : List Piece) :
    Type 0 where
  pub places : map piece_place pieces ≡ places_of index.records
  pub each : All (IsPieceOf known index.walk (kept_of index.records)) pieces
  pub kernel : IsKernelAt index.kernel pieces
  pub by_time : IsSortedByKey (λ p. p.time) nat_cmp (places_of index.records)
  pub end : (rest : List ℕ) × (records_in index.walk rest ≡ no_records index.error)
      × (length (all_bytes pieces) + length rest ≡ record_bytes_left index.walk)
  pub file : IfSome known (IsIndexOfFile index)

-- what was told of the records is so of those of some bytes: of the file's, where these are known
abbrev pub IsToldOf : Option (List ℕ) → ProfileIndex → Type 0
IsToldOf known index =
    (all : List ℕ) × AreBytesOf known index.walk all
    × IsTallyOf index.tally (records_in index.walk all).records

-- ---- a record that is read again

-- the first sample with frames of the kernel still has some; where there is none, no sample has
abbrev pub IsKernelFit : Option ℕ → ℕ → Event → Type 0
IsKernelFit None offset event = has_kernel_frames event ≡ false
IsKernelFit (Some first) offset event = offset ≡ first → has_kernel_frames event ≡ true

abbrev pub IsReadBy :
    PlaceKind → Option (List ℕ) → ProfileIndex → RecordPlace → Record → Type 0
IsReadBy InFile known index place r =
    (bytes : List ℕ) × IsRecordsPart known index.walk place.offset place.size bytes
    × (record_alone index.walk bytes ≡ Ok r) × (r.time ≡ place.time)
    × (is_sample r.event ≡ true) × IsKernelFit index.kernel place.offset r.event
IsReadBy Kept known index place r =
    record_alone index.walk (record_bytes place (kept_of index.records)) ≡ Ok r
IsReadBy Nothing known index place r = r ≡ record { time = place.time; event = OtherEvent }

abbrev pub IsReadAt : Option (List ℕ) → ProfileIndex → RecordPlace → Record → Type 0
IsReadAt known index place r = IsReadBy place.kind known index place r

-- ---- what was printed is right for some bytes

abbrev pub AreRecordsOf : Option (List ℕ) → ProfileIndex → List Record → Type 0
AreRecordsOf known index sorted =
    (all : List ℕ) × (records : List Record) × AreBytesOf known index.walk all
    × (records_in index.walk all ≡ record { records = records; error = index.error })
    × IsInTimeOrder records sorted

abbrev pub IsIndex : Option (List ℕ) → ProfileIndex → Type 0
IsIndex known index = (pieces : List Piece) × IsIndexOf known index pieces

abbrev pub HoldsOf : Option (List ℕ) → ProfileIndex → (List Record → Type 0) → Type 0
HoldsOf known index Is =
    (pieces : List Piece) × IsIndexOf known index pieces × Is (map record_of pieces)

-- ---- what stands around the records

abbrev pub IsReadAround : Option (List ℕ) → List ℕ → List ℕ → ℕ → Type 0
IsReadAround known before behind count =
    (bytes : List ℕ) × AreLeft known bytes × IsAround before behind count bytes
