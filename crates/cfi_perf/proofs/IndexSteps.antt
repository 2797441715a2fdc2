-- One more record of an index.
use Rattle.std.proofs.Common.{append-nil, ◌≡◌, ◌≤◌, ◌+◌, ◌-◌, ◌∙◌, ℕ, List, [], ◌∷◌, ◌++◌, Result, Ok, Err, OnOk, refl, sym, ap, subst, length, take, drop, arith, ⊎_elim, length-append}
use Rattle.std.specs.Prelude.{slice_range}
use Rattle.std.proofs.Math.Seq.{drop-append_seam, take-length}
use Rattle.cfi_perf.specs.declared.index.PlaceKind.{PlaceKind}
use Rattle.cfi_perf.specs.declared.index.PlaceKind.TheVariants.{InFile, Kept, Nothing}
use Rattle.cfi_perf.specs.declared.index.RecordIndex.{RecordIndex}
use Rattle.cfi_perf.specs.declared.index.RecordPlace.{RecordPlace}
use Rattle.cfi_perf.specs.declared.record.Event.{Event as EventOfCode}
use Rattle.cfi_perf.specs.declared.record.Event.TheVariants as events
use Rattle.cfi_perf.specs.declared.record.Record.{Record as RecordOfCode}
use Rattle.cfi_perf.specs.declared.sample.Sample.{Sample as SampleOfCode}
use Rattle.cfi_perf.specs.declared.windows.RecordWalk.{RecordWalk}
use Rattle.cfi_perf.specs.declared.error.PerfError.{PerfError}
use Rattle.cfi_perf.specs.Events.{Event, OtherEvent, Record, event_view, record_view}
use Rattle.cfi_perf.specs.Indexes.{kept_bytes, place_kind, AreAt, AreIndexed, IsRecordAt, IsWithinKept, IsOfBytes, offset_for, record_by}
use Rattle.cfi_perf.specs.Windows.{record_alone}
use Rattle.cfi_perf.proofs.WindowSteps.{front_range}

abbrev with_time : ℕ → Event → Result Record PerfError
with_time time event = Ok (record { time = time; event = event })

module _ (walk : RecordWalk) (all : List ℕ) where
  -- ---- more bytes are kept

  kept_longer : (kind : PlaceKind) (place : RecordPlace) (count more : ℕ) → IsWithinKept kind count place → count ≤ more → IsWithinKept kind more place
  kept_longer InFile place count more within less = tt
  kept_longer Kept place count more within less = omega (arith, within, less)
  kept_longer Nothing place count more within less = tt

  same_record : (kind : PlaceKind) (place : RecordPlace) (kept more : List ℕ) → IsWithinKept kind (length kept) place → record_by kind walk all (kept ++ more) place ≡ record_by kind walk all kept place
  same_record InFile place kept more within = refl
  same_record Kept place kept more within = ap (record_alone walk) (front_range kept more place.offset (place.offset + place.size) within (omega arith))
  same_record Nothing place kept more within = refl

  more_kept : (kept more : List ℕ) (places : List RecordPlace) (records : List Record) → AreAt walk all kept places records → AreAt walk all (kept ++ more) places records
  more_kept kept more [] records are = are
  more_kept kept more (place ∷ places) records (r, others, is, (time, found, within), rest) = (
    r,
    others,
    is,
    (time, same_record place.kind place kept more within ∙ found, kept_longer place.kind place (length kept) (length (kept ++ more)) within (omega (arith, length-append kept more))),
    more_kept kept more places others rest,
  )

  -- ---- one more place

  one_more : (kept : List ℕ) (places : List RecordPlace) (records : List Record) (place : RecordPlace) (r : Record) → AreAt walk all kept places records → IsRecordAt walk all kept place r →
      AreAt walk all kept (places ++ place ∷ []) (records ++ r ∷ [])
  one_more kept [] records place r none at = (r, [], ap (λ (l : List Record). l ++ r ∷ []) none, at, refl)
  one_more kept (first ∷ places) records place r (q, others, is, here, rest) at =
      (q, others ++ r ∷ [], ap (λ (l : List Record). l ++ r ∷ []) is, here, one_more kept places others place r rest at)

  added : (kept kept' : List ℕ) (places places' : List RecordPlace) (records : List Record) (place : RecordPlace) (r : Record) → kept' ≡ kept → places' ≡ places ++ place ∷ [] → AreAt walk all kept places records →
      IsRecordAt walk all kept place r → AreAt walk all kept' places' (records ++ r ∷ [])
  added kept kept' places places' records place r same more are at =
      subst (λ (k : List ℕ). AreAt walk all k places' (records ++ r ∷ [])) (sym same)
      (subst (λ (p : List RecordPlace). AreAt walk all kept p (records ++ r ∷ [])) (sym more) (one_more kept places records place r are at))

  -- ---- the record at the new place

  told : (r : Record) (offset : ℕ) (bytes : List ℕ) → IsOfBytes walk all r offset bytes → (r.event ≡ OtherEvent → ⊥) → (record_alone walk bytes ≡ Ok r) × (slice_range all offset (offset + length bytes) ≡ bytes)
  told r offset bytes of some = ⊎_elim (λ (none : r.event ≡ OtherEvent). absurd (some none)) (λ found. found) of

  in_file : (kept : List ℕ) (r : Record) (offset : ℕ) (bytes : List ℕ) → IsOfBytes walk all r offset bytes → (r.event ≡ OtherEvent → ⊥) →
      IsRecordAt walk all kept (record { time = r.time; offset = offset; size = length bytes; kind = InFile }) r
  in_file kept r offset bytes of some = let found = told r offset bytes of some in (refl, ap (record_alone walk) found.1 ∙ found.0, tt)

  nothing_at : (kept : List ℕ) (r : Record) (offset size : ℕ) → r.event ≡ OtherEvent → IsRecordAt walk all kept (record { time = r.time; offset = offset; size = size; kind = Nothing }) r
  nothing_at kept r offset size none = (refl, ap (λ (e : Event). with_time r.time e) (sym none), tt)

  seam : (kept bytes : List ℕ) → slice_range (kept ++ bytes) (length kept) (length kept + length bytes) ≡ bytes
  seam kept bytes =
      let count : (length kept + length bytes) - length kept ≡ length bytes = omega arith in
      ap (λ (n : ℕ). take n (drop (length kept) (kept ++ bytes))) count ∙ (ap (λ (l : List ℕ). take (length bytes) l) (drop-append_seam kept bytes) ∙ take-length bytes)

  kept_at : (kept : List ℕ) (r : Record) (offset : ℕ) (bytes : List ℕ) → IsOfBytes walk all r offset bytes → (r.event ≡ OtherEvent → ⊥) →
      IsRecordAt walk all (kept ++ bytes) (record { time = r.time; offset = length kept; size = length bytes; kind = Kept }) r
  kept_at kept r offset bytes of some =
      let found = told r offset bytes of some in (refl, ap (record_alone walk) (seam kept bytes) ∙ found.0, omega (arith, length-append kept bytes))

-- ---- a call that may fail

sample_is_told : (e : EventOfCode) (s : SampleOfCode) → e ≡ events.Sample s → event_view e ≡ OtherEvent → ⊥
sample_is_told e s is none = let view = ap event_view is in cc

other_by_view : (e : EventOfCode) → event_view e ≡ OtherEvent → e ≡ events.Other
other_by_view (events.Mapping m) is = absurd (cc)
other_by_view (events.Program p) is = absurd (cc)
other_by_view (events.Fork f) is = absurd (cc)
other_by_view (events.Sample s) is = absurd (cc)
other_by_view (events.Lost l) is = absurd (cc)
other_by_view events.Other is = refl

-- ---- what is kept

pub kept_of_sample : (e : EventOfCode) (s : SampleOfCode) (bytes : List ℕ) → e ≡ events.Sample s → kept_bytes (event_view e) bytes ≡ []
kept_of_sample e s bytes is = ap (λ (e : EventOfCode). kept_bytes (event_view e) bytes) is

pub kept_of_other : (e : EventOfCode) (bytes : List ℕ) → e ≡ events.Other → kept_bytes (event_view e) bytes ≡ []
kept_of_other e bytes is = ap (λ (e : EventOfCode). kept_bytes (event_view e) bytes) is

pub kept_otherwise : (e : EventOfCode) (bytes : List ℕ) → ((s : SampleOfCode) → e ≡ events.Sample s → ⊥) → (e ≡ events.Other → ⊥) → kept_bytes (event_view e) bytes ≡ bytes
kept_otherwise (events.Mapping m) bytes sample other = refl
kept_otherwise (events.Program p) bytes sample other = refl
kept_otherwise (events.Fork f) bytes sample other = refl
kept_otherwise (events.Sample s) bytes sample other = absurd (sample s refl)
kept_otherwise (events.Lost l) bytes sample other = refl
kept_otherwise events.Other bytes sample other = absurd (other refl)

abbrev Adds : RecordIndex → RecordIndex → Record → ℕ → List ℕ → Type 0
Adds old new r offset bytes =
    (walk : RecordWalk) (all : List ℕ) (records : List Record) → AreIndexed walk all old records → IsOfBytes walk all r offset bytes → AreIndexed walk all new (records ++ r ∷ [])

module _ (old new : RecordIndex) (item : RecordOfCode) (offset : ℕ) (bytes : List ℕ) where
  abbrev HasPlace : ℕ → PlaceKind → Type 0
  HasPlace from kind = new.places.items ≡ old.places.items ++ record { time = item.time; offset = from; size = length bytes; kind = kind } ∷ []

  module _ {T E : Type 0} where
    pub sample_added : (r : Result T E) (s : SampleOfCode) → item.event ≡ events.Sample s → OnOk r (HasPlace offset InFile) → OnOk r (new.kept.items ≡ old.kept.items) → OnOk r (Adds old new (record_view item) offset bytes)
    sample_added (Ok x) s is more same =
        λ walk all records are of. added walk all old.kept.items new.kept.items old.places.items new.places.items records _ (record_view item) same more are
        (in_file walk all old.kept.items (record_view item) offset bytes of (sample_is_told item.event s is))
    sample_added (Err e) s is more same = tt

    pub other_added : (r : Result T E) → item.event ≡ events.Other → OnOk r (HasPlace offset Nothing) → OnOk r (new.kept.items ≡ old.kept.items) → OnOk r (Adds old new (record_view item) offset bytes)
    other_added (Ok x) is more same =
        λ walk all records are of. added walk all old.kept.items new.kept.items old.places.items new.places.items records _ (record_view item) same more are
        (nothing_at walk all old.kept.items (record_view item) offset (length bytes) (ap event_view is))
    other_added (Err e) is more same = tt

    pub kept_added : (r : Result T E) → (item.event ≡ events.Other → ⊥) → OnOk r (HasPlace (length old.kept.items) Kept) → OnOk r (new.kept.items ≡ old.kept.items ++ bytes) → OnOk r (Adds old new (record_view item) offset bytes)
    kept_added (Ok x) some more same =
        λ walk all records are of. added walk all (old.kept.items ++ bytes) new.kept.items old.places.items new.places.items records _ (record_view item) same more
        (more_kept walk all old.kept.items bytes old.places.items records are) (kept_at walk all old.kept.items (record_view item) offset bytes of (λ none. some (other_by_view item.event none)))
    kept_added (Err e) some more same = tt

    pub none_kept : (r : Result T E) → kept_bytes (event_view item.event) bytes ≡ [] → OnOk r (new.kept.items ≡ old.kept.items) → OnOk r (new.kept.items ≡ old.kept.items ++ kept_bytes (event_view item.event) bytes)
    none_kept (Ok x) none same = same ∙ (sym (append-nil old.kept.items) ∙ ap (λ (l : List ℕ). old.kept.items ++ l) (sym none))
    none_kept (Err e) none same = tt

    pub all_kept : (r : Result T E) → kept_bytes (event_view item.event) bytes ≡ bytes → OnOk r (new.kept.items ≡ old.kept.items ++ bytes) → OnOk r (new.kept.items ≡ old.kept.items ++ kept_bytes (event_view item.event) bytes)
    all_kept (Ok x) every more = more ∙ ap (λ (l : List ℕ). old.kept.items ++ l) (sym every)
    all_kept (Err e) every more = tt

-- ---- where it is

abbrev pub is_of_kind : EventOfCode → PlaceKind
is_of_kind e = place_kind (event_view e)

pub kind_of_sample : (e : EventOfCode) (s : SampleOfCode) → e ≡ events.Sample s → place_kind (event_view e) ≡ InFile
kind_of_sample e s is = ap is_of_kind is

pub kind_of_other : (e : EventOfCode) → e ≡ events.Other → place_kind (event_view e) ≡ Nothing
kind_of_other e is = ap is_of_kind is

pub kind_otherwise : (e : EventOfCode) → ((s : SampleOfCode) → e ≡ events.Sample s → ⊥) → (e ≡ events.Other → ⊥) → place_kind (event_view e) ≡ Kept
kind_otherwise (events.Mapping m) sample other = refl
kind_otherwise (events.Program p) sample other = refl
kind_otherwise (events.Fork f) sample other = refl
kind_otherwise (events.Sample s) sample other = absurd (sample s refl)
kind_otherwise (events.Lost l) sample other = refl
kind_otherwise events.Other sample other = absurd (other refl)

pub placed : {T E : Type 0} (r : Result T E) (old new : List RecordPlace) (time offset size kept : ℕ) (kind also : PlaceKind) → also ≡ kind → OnOk r (new ≡ old ++ record { time = time; offset = offset_for kind offset kept; size = size; kind = kind } ∷ []) →
    OnOk r (new ≡ old ++ record { time = time; offset = offset_for also offset kept; size = size; kind = also } ∷ [])
placed r old new time offset size kept kind also is of = subst (λ (k : PlaceKind). OnOk r (new ≡ old ++ record { time = time; offset = offset_for k offset kept; size = size; kind = k } ∷ [])) (sym is) of
