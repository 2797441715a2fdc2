-- Records by their own bytes, one after the other: what is found where other bytes follow.
use Rattle.std.proofs.Common.{◌≡◌, ◌≤◌, ◌-◌, ℕ, Bool, true, false, List, [], ◌++◌, Some, Result, Ok, Err, refl, sym, ap, ◌∙◌, length, drop, arith, length-append}
use Rattle.std.specs.Prelude.{◌==◌, if◌then◌else◌, nat_lt, ok_or}
use Rattle.std.proofs.lemmas.Bool.{eqb-true, le-ltb, ltb-false, ne_eqb}
use Rattle.std.proofs.lemmas.List.{drop-append-le, nil_from_length}
use Rattle.cfi_read_core.specs.ByteOrder.{is_big}
use Rattle.cfi_perf.specs.declared.error.PerfError.{PerfError}
use Rattle.cfi_perf.specs.declared.error.PerfError.TheVariants.{RecordCut, RecordSize}
use Rattle.cfi_perf.specs.declared.windows.RecordWalk.{RecordWalk}
use Rattle.cfi_perf.specs.EventTables.{EventTable, event_table_view}
use Rattle.cfi_perf.specs.Events.{Record}
use Rattle.cfi_perf.specs.RecordFrames.{record_header}
use Rattle.cfi_perf.specs.Records.{FirstRecord, first_record, with_record}
use Rattle.cfi_perf.specs.RecordFrames.{FramedRecord, after_record, split_record, uncounted_size}
use Rattle.cfi_perf.specs.RecordTypes.{record_by_type}
use Rattle.cfi_perf.specs.Results.{and_then, or_error}
use Rattle.cfi_perf.specs.ByteReads.{part, read_from}
use Rattle.cfi_perf.specs.Windows.{only_record, record_alone, records_in}
use Rattle.cfi_perf.proofs.Chains.{gave, not_error, not_missing, not_refused}
use Rattle.cfi_perf.proofs.RecordSteps.{fewer, first_left, part_fits, sized, with_body, with_frame, with_header, with_others}
use Rattle.cfi_perf.proofs.WindowSteps.{front_part, large, same_read, sized_by, split_with}

-- ---- with other bytes after them

after_more : (trace : Result ℕ PerfError) (after rest others : List ℕ) →
    and_then trace (λ size. if nat_lt (length after) size then Err RecordCut else Ok (drop size after)) ≡ Ok others → others ≡ [] →
    ◌≡◌ {A = Result (List ℕ) PerfError} (and_then trace (λ size. if nat_lt (length (after ++ rest)) size then Err RecordCut else Ok (drop size (after ++ rest)))) (Ok rest)
after_more (Err e) after rest others is none = absurd (cc)
after_more (Ok n) after rest others is none =
    let left = not_refused (nat_lt (length after) n) RecordCut (Ok (drop n after)) others is in
    let same : drop n after ≡ others = let e = left.1 in cc in
    let fits : n ≤ length after = ltb-false (length after) n left.0 in
    let enough : nat_lt (length (after ++ rest)) n ≡ false = le-ltb (length (after ++ rest)) n (omega (arith, fits, length-append after rest)) in
    ap (λ (b : Bool). if b then Err RecordCut else Ok (drop n (after ++ rest))) enough
    ∙ (ap (λ (l : List ℕ). Ok l) (drop-append-le n after rest fits) ∙ ap (λ (l : List ℕ). Ok (l ++ rest)) (same ∙ none))

module _ (big : Bool) (bytes rest : List ℕ) where
  abbrev all : List ℕ
  all = bytes ++ rest

  framed_more : (found : FramedRecord) → split_record big bytes ≡ Ok found → found.others ≡ [] → split_record big all ≡ Ok (record { header = found.header; body = found.body; others = rest })
  unfolding split_record
  framed_more found is none =
      let header = gave (or_error RecordCut (read_from big bytes record_header)) (with_header big bytes) found is in
      let wide = not_refused (nat_lt header.value.size 8) (RecordSize header.value.size) (sized big bytes header.value) found header.gives in
      let body = gave (ok_or (part bytes 8 (header.value.size - 8)) RecordCut) (with_body big bytes header.value) found wide.1 in
      let others = gave (after_record big header.value body.value (drop header.value.size bytes)) (with_others header.value body.value) found body.gives in
      let same : record { header = header.value; body = body.value; others = others.value } ≡ found = let e = others.gives in cc in
      let was = not_missing RecordCut (part bytes 8 (header.value.size - 8)) body.value body.was in
      let fits = part_fits bytes 8 (header.value.size - 8) body.value was in
      let some : 8 ≤ header.value.size = ltb-false header.value.size 8 wide.0 in
      let read : read_from big all record_header ≡ Ok header.value = same_read big bytes rest (omega (arith, fits, some)) ∙ not_error RecordCut (read_from big bytes record_header) header.value header.was in
      let first = split_with big all header.value read in
      let second = large big all header.value some in
      let third = sized_by big all header.value (Some body.value) (front_part bytes rest 8 (header.value.size - 8) fits ∙ was) in
      let after : drop header.value.size all ≡ drop header.value.size bytes ++ rest = drop-append-le header.value.size bytes rest (omega (arith, fits, some)) in
      let last = after_more (uncounted_size big header.value body.value) (drop header.value.size bytes) rest others.value others.was (ap (λ (f : FramedRecord). f.others) same ∙ none) in
      first ∙ (second ∙ (third ∙ (ap (λ (l : List ℕ). and_then (after_record big header.value body.value l) (with_others header.value body.value)) after
      ∙ (ap (λ (r : Result (List ℕ) PerfError). and_then r (with_others header.value body.value)) last
      ∙ ap (λ (f : FramedRecord). with_others f.header f.body rest) same))))

  module _ (events : EventTable) where
    first_more : (found : FirstRecord) → first_record events big bytes ≡ Ok found → found.others ≡ [] → first_record events big all ≡ Ok (record { first = found.first; others = rest })
    unfolding first_record
    first_more found is none =
        let frame = gave (split_record big bytes) (λ frame. and_then (record_by_type events big frame.header frame.body) (with_frame events big frame)) found is in
        let first = gave (record_by_type events big frame.value.header frame.value.body) (with_frame events big frame.value) found frame.gives in
        let same : record { first = first.value; others = frame.value.others } ≡ found = let e = first.gives in cc in
        let more = framed_more frame.value frame.was (ap (λ (f : FirstRecord). f.others) same ∙ none) in
        let kept : FramedRecord = record { header = frame.value.header; body = frame.value.body; others = rest } in
        ap (λ (r : Result FramedRecord PerfError). and_then r (λ frame. and_then (record_by_type events big frame.header frame.body) (with_frame events big frame))) more
        ∙ (ap (λ (r : Result Record PerfError). and_then r (with_frame events big kept)) first.was ∙ ap (λ (f : FirstRecord). with_frame events big kept f.first) same)

-- ---- a record that is alone

only_found : (b : Bool) (r s : Record) → ◌≡◌ {A = Result Record PerfError} (if b then Ok r else Err RecordCut) (Ok s) → (b ≡ true) × (r ≡ s)
only_found true r s is = (refl, let e = is in cc)
only_found false r s is = absurd (cc)

module _ (walk : RecordWalk) (bytes : List ℕ) (r : Record) (is : record_alone walk bytes ≡ Ok r) where
  abbrev events : EventTable
  events = event_table_view walk.events

  -- the first of these and of any bytes after them
  first_of_more : (rest : List ℕ) → first_record events (is_big walk.endian) (bytes ++ rest) ≡ Ok (record { first = r; others = rest })
  first_of_more rest =
      let found = gave (first_record events (is_big walk.endian) bytes) only_record r is in
      let only = only_found (length found.value.others == 0) found.value.first r found.gives in
      let none : found.value.others ≡ [] = nil_from_length found.value.others (eqb-true (length found.value.others) 0 only.0) in
      first_more (is_big walk.endian) bytes rest events found.value found.was none ∙ ap (λ (r : Record). Ok (record { first = r; others = rest })) only.1

  some_bytes : (rest : List ℕ) → (length (bytes ++ rest) == 0) ≡ false
  some_bytes rest =
      let less = fewer events (is_big walk.endian) (bytes ++ rest) (record { first = r; others = rest }) (first_of_more rest) in
      ne_eqb (length (bytes ++ rest)) 0 (λ none. omega (arith, less, none))

  -- the record, and those of the bytes after it
  pub then_others : (rest : List ℕ) → records_in walk (bytes ++ rest) ≡ with_record r (records_in walk rest)
  then_others rest = first_left events (is_big walk.endian) walk.is_cut (bytes ++ rest) (record { first = r; others = rest }) (some_bytes rest) (sym (first_of_more rest))
