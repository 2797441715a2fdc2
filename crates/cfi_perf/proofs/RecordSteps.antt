-- The records of some bytes, when the first of them is read.
use Rattle.std.proofs.Common.{◌≡◌, ◌<◌, ◌≤◌, ◌+◌, ◌-◌, ℕ, zero, suc, Bool, true, false, List, Some, None, Result, Ok, Err, refl, sym, ap, ◌∙◌, length, drop, arith}
use Rattle.std.specs.Prelude.{◌==◌, if◌then◌else◌, nat_le, nat_lt, slice_range, ok_or}
use Rattle.std.proofs.lemmas.Bool.{ltb-false}
use Rattle.std.proofs.lemmas.List.{length-drop}
use borrow.Author.Tests.{leb-true}
use Rattle.cfi_perf.specs.declared.error.PerfError.{PerfError}
use Rattle.cfi_perf.specs.declared.error.PerfError.TheVariants.{DataOutOfBounds, RecordCut, RecordSize}
use Rattle.cfi_perf.specs.declared.record_frame.RecordHeader.{RecordHeader}
use Rattle.cfi_perf.specs.EventTables.{EventTable}
use Rattle.cfi_perf.specs.Events.{Record}
use Rattle.cfi_perf.specs.Results.{and_then, or_error}
use Rattle.cfi_perf.specs.ByteReads.{part, read_from}
use Rattle.cfi_perf.specs.RecordFrames.{record_header}
use Rattle.cfi_perf.specs.Records.{FirstRecord, Records, first_record, no_records, records_of, records_up_to, records_with, until_cut, with_record}
use Rattle.cfi_perf.specs.RecordFrames.{FramedRecord, after_record, split_record, uncounted_size}
use Rattle.cfi_perf.specs.RecordTypes.{record_by_type}
use Rattle.cfi_perf.proofs.Chains.{gave, not_missing, not_refused}

-- ---- a record takes a byte at least

some_part : (b : Bool) (xs ys : List ℕ) → (if b then Some xs else None) ≡ Some ys → b ≡ true
some_part true xs ys is = refl
some_part false xs ys is = absurd (cc)

pub part_fits : (bytes : List ℕ) (offset size : ℕ) (found : List ℕ) → part bytes offset size ≡ Some found → offset + size ≤ length bytes
part_fits bytes offset size found is = leb-true _ _ (some_part (nat_le (offset + size) (length bytes)) (slice_range bytes offset (offset + size)) found is)

after_size : (after others : List ℕ) (trace : Result ℕ PerfError) → and_then trace (λ size. if nat_lt (length after) size then Err RecordCut else Ok (drop size after)) ≡ Ok others → length others ≤ length after
after_size after others trace is =
    let size = gave trace (λ size. if nat_lt (length after) size then Err RecordCut else Ok (drop size after)) others is in
    let left = not_refused (nat_lt (length after) size.value) RecordCut (Ok (drop size.value after)) others size.gives in
    let same : drop size.value after ≡ others = let e = left.1 in cc in
    let count : length (drop size.value after) ≡ length others = ap length same in
    let less = length-drop size.value after in
    omega (arith, count, less)

pub no_more_after : (big : Bool) (header : RecordHeader) (body after others : List ℕ) → after_record big header body after ≡ Ok others → length others ≤ length after
no_more_after big header body after others is = after_size after others (uncounted_size big header body) is

-- what follows the record in a result, or else this
abbrev others_of : Result FramedRecord PerfError → List ℕ → List ℕ
others_of (Ok found) other = found.others
others_of (Err e) other = other

same_others : (header : RecordHeader) (body others : List ℕ) (found : FramedRecord) → ◌≡◌ {A = Result FramedRecord PerfError} (Ok (record { header = header; body = body; others = others })) (Ok found) → length others ≡ length found.others
same_others header body others found is = ap (λ (r : Result FramedRecord PerfError). length (others_of r others)) is

-- the steps of a record, each with what the ones before gave
abbrev pub with_others : RecordHeader → List ℕ → List ℕ → Result FramedRecord PerfError
with_others header body others = Ok (record { header = header; body = body; others = others })

abbrev pub with_body : Bool → List ℕ → RecordHeader → List ℕ → Result FramedRecord PerfError
with_body big bytes header body = and_then (after_record big header body (drop header.size bytes)) (with_others header body)

abbrev pub sized : Bool → List ℕ → RecordHeader → Result FramedRecord PerfError
sized big bytes header = and_then (ok_or (part bytes 8 (header.size - 8)) RecordCut) (with_body big bytes header)

abbrev pub with_header : Bool → List ℕ → RecordHeader → Result FramedRecord PerfError
with_header big bytes header = if nat_lt header.size 8 then Err (RecordSize header.size) else sized big bytes header

framed_fewer : (big : Bool) (bytes : List ℕ) (found : FramedRecord) → split_record big bytes ≡ Ok found → length found.others < length bytes
unfolding split_record
framed_fewer big bytes found is =
    let header = gave (or_error RecordCut (read_from big bytes record_header)) (with_header big bytes) found is in
    let large = not_refused (nat_lt header.value.size 8) (RecordSize header.value.size) (sized big bytes header.value) found header.gives in
    let body = gave (ok_or (part bytes 8 (header.value.size - 8)) RecordCut) (with_body big bytes header.value) found large.1 in
    let others = gave (after_record big header.value body.value (drop header.value.size bytes)) (with_others header.value body.value) found body.gives in
    let fits = part_fits bytes 8 (header.value.size - 8) body.value (not_missing RecordCut (part bytes 8 (header.value.size - 8)) body.value body.was) in
    let some : 8 ≤ header.value.size = ltb-false header.value.size 8 large.0 in
    let count = same_others header.value body.value others.value found others.gives in
    let more = no_more_after big header.value body.value (drop header.value.size bytes) others.value others.was in
    let less = length-drop header.value.size bytes in
    omega (arith, fits, some, count, more, less)

abbrev after_first : Result FirstRecord PerfError → List ℕ → List ℕ
after_first (Ok found) other = found.others
after_first (Err e) other = other

same_after : (first : Record) (others : List ℕ) (found : FirstRecord) → ◌≡◌ {A = Result FirstRecord PerfError} (Ok (record { first = first; others = others })) (Ok found) → length others ≡ length found.others
same_after first others found is = ap (λ (r : Result FirstRecord PerfError). length (after_first r others)) is

module _ (events : EventTable) (big : Bool) where
  abbrev pub with_frame : FramedRecord → Record → Result FirstRecord PerfError
  with_frame frame first = Ok (record { first = first; others = frame.others })

  pub fewer : (bytes : List ℕ) (found : FirstRecord) → first_record events big bytes ≡ Ok found → length found.others < length bytes
  unfolding first_record
  fewer bytes found is =
      let frame = gave (split_record big bytes) (λ frame. and_then (record_by_type events big frame.header frame.body) (with_frame frame)) found is in
      let first = gave (record_by_type events big frame.value.header frame.value.body) (with_frame frame.value) found frame.gives in
      let count = same_after first.value frame.value.others found first.gives in
      let less = framed_fewer big bytes frame.value frame.was in
      omega (arith, count, less)

  -- ---- as many steps as there are bytes are enough

  with_same : (r : Result FirstRecord PerfError) (f g : List ℕ → Records) → ((found : FirstRecord) → r ≡ Ok found → f found.others ≡ g found.others) → records_with r f ≡ records_with r g
  with_same (Err e) f g h = refl
  with_same (Ok found) f g h = ap (with_record found.first) (h found refl)

  no_bytes : (bytes : List ℕ) (others : Records) → length bytes ≤ 0 → (if length bytes == 0 then no_records None else others) ≡ no_records None
  no_bytes bytes others none = let e : length bytes ≡ 0 = omega arith in rw e refl

  same : (n m : ℕ) (bytes : List ℕ) → length bytes ≤ n → length bytes ≤ m → records_up_to n events big bytes ≡ records_up_to m events big bytes
  unfolding records_up_to
  same zero zero bytes below under = refl
  same zero (suc m) bytes below under = sym (no_bytes bytes (records_with (first_record events big bytes) (records_up_to m events big)) below)
  same (suc n) zero bytes below under = no_bytes bytes (records_with (first_record events big bytes) (records_up_to n events big)) under
  same (suc n) (suc m) bytes below under =
      ap (λ (others : Records). if length bytes == 0 then no_records None else others)
      (with_same (first_record events big bytes) (records_up_to n events big) (records_up_to m events big)
      (λ found is. let less = fewer bytes found is in same n m found.others (omega (arith, less, below)) (omega (arith, less, under))))

  -- ---- one step

  step : (bytes : List ℕ) → records_of events big bytes ≡ (if length bytes == 0 then no_records None else records_with (first_record events big bytes) (records_of events big))
  unfolding records_up_to
  step bytes =
      same (length bytes) (suc (length bytes)) bytes (omega arith) (omega arith)
      ∙ ap (λ (others : Records). if length bytes == 0 then no_records None else others)
      (with_same (first_record events big bytes) (records_up_to (length bytes) events big) (records_of events big)
      (λ found is. let less = fewer bytes found is in same (length bytes) (length found.others) found.others (omega (arith, less)) (omega arith)))

  pub none_met : (bytes : List ℕ) → (length bytes == 0) ≡ true → records_of events big bytes ≡ no_records None
  none_met bytes none = step bytes ∙ ap (λ (b : Bool). if b then no_records None else records_with (first_record events big bytes) (records_of events big)) none

  met : (bytes : List ℕ) (r : Result FirstRecord PerfError) → (length bytes == 0) ≡ false → r ≡ first_record events big bytes → records_of events big bytes ≡ records_with r (records_of events big)
  met bytes r some is =
      step bytes
      ∙ (ap (λ (b : Bool). if b then no_records None else records_with (first_record events big bytes) (records_of events big)) some
      ∙ ap (λ (r : Result FirstRecord PerfError). records_with r (records_of events big)) (sym is))

  pub first_met : (bytes : List ℕ) (found : FirstRecord) → (length bytes == 0) ≡ false → Ok found ≡ first_record events big bytes → records_of events big bytes ≡ with_record found.first (records_of events big found.others)
  first_met bytes found some is = met bytes (Ok found) some is

  pub error_met : (bytes : List ℕ) (e : PerfError) → (length bytes == 0) ≡ false → Err e ≡ first_record events big bytes → records_of events big bytes ≡ no_records (Some e)
  error_met bytes e some is = met bytes (Err e) some is

  -- ---- where the file ends before the records do

  abbrev pub left : Bool → List ℕ → Records
  left is_cut bytes = until_cut is_cut (records_of events big bytes)

  pub none_left : (is_cut : Bool) (bytes : List ℕ) → (length bytes == 0) ≡ true → is_cut ≡ false → left is_cut bytes ≡ no_records None
  none_left is_cut bytes none whole = ap (λ (b : Bool). left b bytes) whole ∙ none_met bytes none

  pub cut_left : (is_cut : Bool) (bytes : List ℕ) → (length bytes == 0) ≡ true → is_cut ≡ true → left is_cut bytes ≡ no_records (Some DataOutOfBounds)
  cut_left is_cut bytes none cut = ap (λ (b : Bool). left b bytes) cut ∙ ap (until_cut true) (none_met bytes none)

  pub first_left : (is_cut : Bool) (bytes : List ℕ) (found : FirstRecord) → (length bytes == 0) ≡ false → Ok found ≡ first_record events big bytes → left is_cut bytes ≡ with_record found.first (left is_cut found.others)
  first_left is_cut bytes found some is = ap (until_cut is_cut) (first_met bytes found some is)

  pub error_left : (is_cut : Bool) (bytes : List ℕ) (e e' : PerfError) → (length bytes == 0) ≡ false → Err e ≡ first_record events big bytes → Some e' ≡ (until_cut is_cut (no_records (Some e))).error →
      left is_cut bytes ≡ no_records (Some e')
  error_left is_cut bytes e e' some is ends = ap (until_cut is_cut) (error_met bytes e some is) ∙ ap no_records (sym ends)
