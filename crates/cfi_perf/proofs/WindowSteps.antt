-- The first record of bytes of which only a window is at hand.
use Rattle.std.proofs.Common.{◌≡◌, ◌<◌, ◌≤◌, ◌+◌, ◌-◌, ◌≢◌, ℕ, Bool, true, false, List, [], ◌++◌, Option, Some, None, Result, Ok, Err, refl, sym, ap, ◌∙◌, length, take, drop, arith, ◌⊎◌, ⊎_elim, min, append-nil, inl, inr}
use Rattle.std.specs.Prelude.{◌==◌, if◌then◌else◌, nat_le, nat_lt, slice_range, ok_or}
use Rattle.std.specs.Int.{Width, w16, w32, byte_len}
use Rattle.std.proofs.lemmas.Bool.{le-leb, lt-ltb, le-ltb, ltb-false, cases_lt, eq-eqb, ne_eqb}
use Rattle.std.proofs.lemmas.List.{drop-append-le, drop-drop, drop_min, length-append, length-drop, length-take, take-append-le, nil_from_length, take-append-drop}
use Rattle.cfi_read_core.specs.declared.error.Error.{Error}
use Rattle.cfi_read_core.specs.ReadFunctions.{Read, Source, Outcome, carry_on, give, ◌>>=◌}
use Rattle.cfi_read_core.specs.SliceReaders.{slice_over}
use Rattle.cfi_read_core.specs.Numbers.{unsigned, number_of}
use Rattle.cfi_perf.specs.declared.error.PerfError.{PerfError}
use Rattle.cfi_perf.specs.declared.error.PerfError.TheVariants.{RecordCut, RecordSize}
use Rattle.cfi_perf.specs.declared.record_frame.RecordHeader.{RecordHeader}
use Rattle.cfi_perf.specs.Results.{and_then, or_error}
use Rattle.cfi_perf.specs.ByteReads.{part, read_from}
use Rattle.cfi_perf.specs.RecordFrames.{record_header}
use Rattle.cfi_perf.specs.Records.{FirstRecord, first_record}
use Rattle.cfi_perf.specs.RecordFrames.{FramedRecord, HasUncounted, after_record, split_record, uncounted_size}
use Rattle.cfi_perf.specs.RecordTypes.{record_by_type}
use Rattle.cfi_perf.specs.SampleIds.{without_id}
use Rattle.cfi_perf.specs.EventTables.{EventTable}
use Rattle.cfi_perf.specs.Events.{OtherEvent, Record}
use Rattle.cfi_perf.specs.Windows.{IsWindow, only_record}
use Rattle.cfi_perf.proofs.Chains.{gave, not_error, not_missing, not_refused}
use Rattle.cfi_perf.proofs.RecordSteps.{no_more_after, part_fits, sized, with_body, with_frame, with_header, with_others}

-- ---- numbers at a place

pub number_read : (w : Width) (s : Source) (place : ℕ) → nat_le (byte_len w) (s.last - place) ≡ true →
    unsigned w s place ≡ record { value = Ok (number_of w s.big_endian (slice_range s.whole place (place + byte_len w))); place = place + byte_len w }
unfolding unsigned
number_read w s place fits = rw fits refl

-- ---- a part of the beginning is one of the whole

pub front_range : (front others : List ℕ) (i j : ℕ) → j ≤ length front → i ≤ j → slice_range (front ++ others) i j ≡ slice_range front i j
front_range front others i j h under =
    ap (λ (l : List ℕ). take (j - i) l) (drop-append-le i front others (omega arith))
    ∙ take-append-le (j - i) (drop i front) others (omega (arith, length-drop i front))

-- what the first eight bytes are
abbrev header_of : Bool → List ℕ → RecordHeader
header_of big bytes = record {
  kind = number_of w32 big (slice_range bytes 0 4);
  misc = number_of w16 big (slice_range bytes 4 6);
  size = number_of w16 big (slice_range bytes 6 8);
}

abbrev size_read : ℕ → ℕ → Read RecordHeader
size_read kind misc = unsigned w16 >>= λ size. give (record { kind = kind; misc = misc; size = size })

abbrev misc_read : ℕ → Read RecordHeader
misc_read kind = unsigned w16 >>= λ misc. size_read kind misc

header_read : (big : Bool) (bytes : List ℕ) → 8 ≤ length bytes → read_from big bytes record_header ≡ Ok (header_of big bytes)
unfolding record_header
header_read big bytes h =
    let s : Source = (slice_over bytes big).source in
    let kind : ℕ = number_of w32 big (slice_range bytes 0 4) in
    let misc : ℕ = number_of w16 big (slice_range bytes 4 6) in
    let first = number_read w32 s 0 (le-leb 4 (length bytes - 0) (omega arith)) in
    let second = number_read w16 s 4 (le-leb 2 (length bytes - 4) (omega arith)) in
    let third = number_read w16 s 6 (le-leb 2 (length bytes - 6) (omega arith)) in
    ap (λ (o : Outcome ℕ). (carry_on misc_read s o.value o.place).value) first
    ∙ (ap (λ (o : Outcome ℕ). (carry_on (size_read kind) s o.value o.place).value) second
    ∙ ap (λ (o : Outcome ℕ). (carry_on (λ size. give (record { kind = kind; misc = misc; size = size })) s o.value o.place).value) third)

front_header : (big : Bool) (front others : List ℕ) → 8 ≤ length front → header_of big (front ++ others) ≡ header_of big front
front_header big front others h =
    rw (front_range front others 0 4 (omega arith) (omega arith), front_range front others 4 6 (omega arith) (omega arith), front_range front others 6 8 (omega arith) (omega arith)) refl

abbrev ok : RecordHeader → Result RecordHeader Error
ok header = Ok header

pub same_read : (big : Bool) (front others : List ℕ) → 8 ≤ length front → read_from big (front ++ others) record_header ≡ read_from big front record_header
same_read big front others h =
    let more : 8 ≤ length (front ++ others) = omega (arith, length-append front others) in
    header_read big (front ++ others) more ∙ (ap ok (front_header big front others h) ∙ sym (header_read big front h))

pub front_part : (front others : List ℕ) (i n : ℕ) → i + n ≤ length front → part (front ++ others) i n ≡ part front i n
front_part front others i n h =
    let more : nat_le (i + n) (length (front ++ others)) ≡ true = le-leb (i + n) (length (front ++ others)) (omega (arith, length-append front others)) in
    let some : nat_le (i + n) (length front) ≡ true = le-leb (i + n) (length front) h in
    rw (more, some) (ap (λ (l : List ℕ). Some l) (front_range front others i (i + n) h (omega arith)))

-- ---- the steps of a record

split_refused : (big : Bool) (bytes : List ℕ) (e : Error) → read_from big bytes record_header ≡ Err e → split_record big bytes ≡ Err RecordCut
unfolding split_record
split_refused big bytes e is = ap (λ (r : Result RecordHeader Error). and_then (or_error RecordCut r) (with_header big bytes)) is

pub split_with : (big : Bool) (bytes : List ℕ) (header : RecordHeader) → read_from big bytes record_header ≡ Ok header → split_record big bytes ≡ with_header big bytes header
unfolding split_record
split_with big bytes header is = ap (λ (r : Result RecordHeader Error). and_then (or_error RecordCut r) (with_header big bytes)) is

small : (big : Bool) (bytes : List ℕ) (header : RecordHeader) → header.size < 8 → with_header big bytes header ≡ Err (RecordSize header.size)
small big bytes header less =
    ap (λ (b : Bool). if b then Err (RecordSize header.size) else sized big bytes header) (lt-ltb header.size 8 less)

pub large : (big : Bool) (bytes : List ℕ) (header : RecordHeader) → 8 ≤ header.size → with_header big bytes header ≡ sized big bytes header
large big bytes header some =
    ap (λ (b : Bool). if b then Err (RecordSize header.size) else sized big bytes header) (le-ltb header.size 8 some)

pub sized_by : (big : Bool) (bytes : List ℕ) (header : RecordHeader) (body : Option (List ℕ)) → part bytes 8 (header.size - 8) ≡ body → sized big bytes header ≡ and_then (ok_or body RecordCut) (with_body big bytes header)
sized_by big bytes header body is = ap (λ (o : Option (List ℕ)). and_then (ok_or o RecordCut) (with_body big bytes header)) is

-- ---- of a window, of all bytes

whole_or : (window others : List ℕ) (left : ℕ) → IsWindow window others left → (65535 ≤ length window) ⊎ (others ≡ [])
whole_or window others left of =
    ⊎_elim (λ (less : length window < 65535). inr (nil_from_length others (omega (arith, of.all, of.enough, less)))) (λ (more : 65535 ≤ length window). inl more) (cases_lt (length window) 65535)

no_others : (window others : List ℕ) → others ≡ [] → window ++ others ≡ window
no_others window others none = ap (λ (l : List ℕ). window ++ l) none ∙ append-nil window

module _ (big : Bool) (window others : List ℕ) (left : ℕ) (of : IsWindow window others left) where
  abbrev all : List ℕ
  all = window ++ others

  all_read : read_from big all record_header ≡ read_from big window record_header
  all_read =
      ⊎_elim (λ (more : 65535 ≤ length window). same_read big window others (omega (arith, more)))
      (λ (none : others ≡ []). ap (λ (l : List ℕ). read_from big l record_header) (no_others window others none)) (whole_or window others left of)

  all_part : (n : ℕ) → n < 65528 → part all 8 n ≡ part window 8 n
  all_part n less =
      ⊎_elim (λ (more : 65535 ≤ length window). front_part window others 8 n (omega (arith, more, less)))
      (λ (none : others ≡ []). ap (λ (l : List ℕ). part l 8 n) (no_others window others none)) (whole_or window others left of)

  pub after_length : (n : ℕ) → length (drop n all) ≡ left - n
  after_length n = omega (arith, length-drop n all, length-append window others, of.all)

  pub cut_header : (e : Error) → read_from big window record_header ≡ Err e → Err RecordCut ≡ split_record big all
  cut_header e is = sym (split_refused big all e (all_read ∙ is))

  module _ (header : RecordHeader) (is : read_from big window record_header ≡ Ok header) where
    all_with : split_record big all ≡ with_header big all header
    all_with = split_with big all header (all_read ∙ is)

    pub small_size : header.size < 8 → Err (RecordSize header.size) ≡ split_record big all
    small_size less = sym (all_with ∙ small big all header less)

    module _ (some : 8 ≤ header.size) (fits : header.size < 65536) where
      all_sized : (body : Option (List ℕ)) → part window 8 (header.size - 8) ≡ body → split_record big all ≡ and_then (ok_or body RecordCut) (with_body big all header)
      all_sized body was = all_with ∙ (large big all header some ∙ sized_by big all header body (all_part (header.size - 8) (omega (arith, fits, some)) ∙ was))

      pub cut_body : part window 8 (header.size - 8) ≡ None → Err RecordCut ≡ split_record big all
      cut_body was = sym (all_sized None was)

      module _ (body : List ℕ) (was : part window 8 (header.size - 8) ≡ Some body) where
        all_framed : (r : Result (List ℕ) PerfError) → r ≡ after_record big header body (drop header.size all) → and_then r (with_others header body) ≡ split_record big all
        all_framed r is-after = sym (all_sized (Some body) was ∙ ap (λ (r : Result (List ℕ) PerfError). and_then r (with_others header body)) (sym is-after))

        pub cut_trace : (e : PerfError) → Err e ≡ after_record big header body (drop header.size all) → Err e ≡ split_record big all
        cut_trace e is-after = all_framed (Err e) is-after

        pub framed : (trace : ℕ) → Ok (drop trace (drop header.size all)) ≡ after_record big header body (drop header.size all) →
            Ok (record { header = header; body = body; others = drop (header.size + trace) all }) ≡ split_record big all
        framed trace is-after =
            ap (λ (l : List ℕ). with_others header body l) (sym (drop-drop trace header.size all)) ∙ all_framed (Ok (drop trace (drop header.size all))) is-after

-- ---- the first record

module _ (events : EventTable) (big : Bool) (bytes : List ℕ) where
  abbrev then_record : FramedRecord → Result FirstRecord PerfError
  then_record found = and_then (record_by_type events big found.header found.body) (with_frame events big found)

  pub frame_refused : (e : PerfError) → Err e ≡ split_record big bytes → Err e ≡ first_record events big bytes
  unfolding first_record
  frame_refused e is = ap (λ (r : Result FramedRecord PerfError). and_then r then_record) is

  first_by : (found : FramedRecord) → Ok found ≡ split_record big bytes → then_record found ≡ first_record events big bytes
  unfolding first_record
  first_by found is = ap (λ (r : Result FramedRecord PerfError). and_then r then_record) is

  pub record_refused : (found : FramedRecord) (e : PerfError) → Ok found ≡ split_record big bytes → Err e ≡ record_by_type events big found.header found.body → Err e ≡ first_record events big bytes
  record_refused found e is refused = ap (λ (r : Result Record PerfError). and_then r (with_frame events big found)) refused ∙ first_by found is

  pub first_found : (found : FramedRecord) (first : Record) → Ok found ≡ split_record big bytes → Ok first ≡ record_by_type events big found.header found.body →
      Ok (record { first = first; others = found.others }) ≡ first_record events big bytes
  first_found found first is was = ap (λ (r : Result Record PerfError). and_then r (with_frame events big found)) was ∙ first_by found is

-- ---- a record by its own bytes alone

abbrev bytes_found : List ℕ → Result (List ℕ) PerfError
bytes_found l = Ok l

after_alone : (trace : Result ℕ PerfError) (after front others : List ℕ) →
    and_then trace (λ size. if nat_lt (length after) size then Err RecordCut else Ok (drop size after)) ≡ Ok others →
    length front ≡ length after - length others →
    and_then trace (λ size. if nat_lt (length front) size then Err RecordCut else Ok (drop size front)) ≡ Ok []
after_alone (Err e) after front others is count = absurd (cc)
after_alone (Ok n) after front others is count =
    let left = not_refused (nat_lt (length after) n) RecordCut (Ok (drop n after)) others is in
    let same : drop n after ≡ others = let e = left.1 in cc in
    let fits : n ≤ length after = ltb-false (length after) n left.0 in
    let fewer : length after - n ≡ length others = sym (length-drop n after) ∙ ap length same in
    let enough : nat_lt (length front) n ≡ false = le-ltb (length front) n (omega (arith, count, fits, fewer)) in
    let none : drop n front ≡ [] = nil_from_length (drop n front) (omega (arith, length-drop n front, count, fits, fewer)) in
    ap (λ (b : Bool). if b then Err RecordCut else Ok (drop n front)) enough ∙ ap bytes_found none

module _ (big : Bool) (bytes : List ℕ) (n : ℕ) where
  abbrev front : List ℕ
  front = take n bytes

  all_front : front ++ drop n bytes ≡ bytes
  all_front = take-append-drop n bytes

  front_length : length front ≡ min n (length bytes)
  front_length = length-take n bytes

  front_read : 8 ≤ length front → read_from big front record_header ≡ read_from big bytes record_header
  front_read some = sym (same_read big front (drop n bytes) some) ∙ ap (λ (l : List ℕ). read_from big l record_header) all_front

  front_body : (size : ℕ) → 8 + size ≤ length front → part front 8 size ≡ part bytes 8 size
  front_body size fits = sym (front_part front (drop n bytes) 8 size fits) ∙ ap (λ (l : List ℕ). part l 8 size) all_front

  pub framed_alone : (found : FramedRecord) → split_record big bytes ≡ Ok found → found.others ≡ drop n bytes →
      split_record big front ≡ Ok (record { header = found.header; body = found.body; others = [] })
  unfolding split_record
  framed_alone found is ends =
      let header = gave (or_error RecordCut (read_from big bytes record_header)) (with_header big bytes) found is in
      let wide = not_refused (nat_lt header.value.size 8) (RecordSize header.value.size) (sized big bytes header.value) found header.gives in
      let body = gave (ok_or (part bytes 8 (header.value.size - 8)) RecordCut) (with_body big bytes header.value) found wide.1 in
      let others = gave (after_record big header.value body.value (drop header.value.size bytes)) (with_others header.value body.value) found body.gives in
      let same : record { header = header.value; body = body.value; others = others.value } ≡ found = let e = others.gives in cc in
      let was = not_missing RecordCut (part bytes 8 (header.value.size - 8)) body.value body.was in
      let fits = part_fits bytes 8 (header.value.size - 8) body.value was in
      let some : 8 ≤ header.value.size = ltb-false header.value.size 8 wide.0 in
      let fewer = no_more_after big header.value body.value (drop header.value.size bytes) others.value others.was in
      let count : length others.value ≡ length bytes - n = ap (λ (f : FramedRecord). length f.others) same ∙ (ap length ends ∙ length-drop n bytes) in
      let within : header.value.size ≤ length front = omega (arith, fits, some, fewer, count, front_length, length-drop header.value.size bytes) in
      let after : length (drop header.value.size front) ≡ length (drop header.value.size bytes) - length others.value = omega (arith, within, fits, some, count, front_length, length-drop header.value.size bytes, length-drop header.value.size front) in
      let read : read_from big front record_header ≡ Ok header.value = front_read (omega (arith, within, some)) ∙ not_error RecordCut (read_from big bytes record_header) header.value header.was in
      let first = split_with big front header.value read in
      let second = large big front header.value some in
      let third = sized_by big front header.value (Some body.value) (front_body (header.value.size - 8) (omega (arith, within, some)) ∙ was) in
      let last = after_alone (uncounted_size big header.value body.value) (drop header.value.size bytes) (drop header.value.size front) others.value others.was after in
      first ∙ (second ∙ (third ∙ (ap (λ (r : Result (List ℕ) PerfError). and_then r (with_others header.value body.value)) last
      ∙ ap (λ (f : FramedRecord). with_others f.header f.body []) same)))

  abbrev record_found : Record → Result Record PerfError
  record_found r = Ok r

  module _ (events : EventTable) where
    pub first_alone : (found : FirstRecord) → Ok found ≡ first_record events big bytes → found.others ≡ drop n bytes → and_then (first_record events big front) only_record ≡ Ok found.first
    unfolding first_record
    first_alone found is ends =
        let frame = gave (split_record big bytes) (λ frame. and_then (record_by_type events big frame.header frame.body) (with_frame events big frame)) found (sym is) in
        let first = gave (record_by_type events big frame.value.header frame.value.body) (with_frame events big frame.value) found frame.gives in
        let same : record { first = first.value; others = frame.value.others } ≡ found = let e = first.gives in cc in
        let alone = framed_alone frame.value frame.was (ap (λ (f : FirstRecord). f.others) same ∙ ends) in
        let kept : FramedRecord = record { header = frame.value.header; body = frame.value.body; others = [] } in
        ap (λ (r : Result FramedRecord PerfError). and_then (and_then r (λ frame. and_then (record_by_type events big frame.header frame.body) (with_frame events big frame))) only_record) alone
        ∙ (ap (λ (r : Result Record PerfError). and_then (and_then r (with_frame events big kept)) only_record) first.was ∙ ap (λ (f : FirstRecord). record_found f.first) same)

-- ---- what a walk passed

pub passed_count : (left size : ℕ) → left - (left - size) ≡ min size left
passed_count left size = omega arith

pub drop_passed : (left size : ℕ) (bytes : List ℕ) → length bytes ≡ left → drop size bytes ≡ drop (left - (left - size)) bytes
drop_passed left size bytes all =
    sym (drop_min size bytes) ∙ ap (λ (n : ℕ). drop n bytes) (let e = passed_count left size in omega (arith, e, all))

pub no_bytes_left : (n : ℕ) (bytes : List ℕ) → length bytes ≤ n → (length (drop n bytes) == 0) ≡ true
no_bytes_left n bytes none = eq-eqb (length (drop n bytes)) 0 (omega (arith, length-drop n bytes))

pub some_bytes : (bytes : List ℕ) (left : ℕ) → length bytes ≡ left → left ≢ 0 → (length bytes == 0) ≡ false
some_bytes bytes left all some = ne_eqb (length bytes) 0 (λ none. some (sym all ∙ none))

pub window_length : (window others : List ℕ) (left : ℕ) → IsWindow window others left → length (window ++ others) ≡ left
window_length window others left of = length-append window others ∙ of.all

-- ---- a record after which bytes may be that its size doesn't count says nothing

of_trace : (events : EventTable) (big : Bool) (header : RecordHeader) (body : List ℕ) (r : Record) → record_by_type events big (record header { kind = 71 }) body ≡ Ok r → r.event ≡ OtherEvent
unfolding record_by_type
of_trace events big header body r is =
    let time = gave (without_id events big 71 body) (λ found. Ok (record { time = found.time; event = OtherEvent })) r is in
    let same : record { time = time.value.time; event = OtherEvent } ≡ r = let e = time.gives in cc in
    sym (ap (λ (r : Record). r.event) same)

of_descriptions : (events : EventTable) (big : Bool) (header : RecordHeader) (body : List ℕ) (r : Record) → record_by_type events big (record header { kind = 66 }) body ≡ Ok r → r.event ≡ OtherEvent
unfolding record_by_type
of_descriptions events big header body r is =
    let time = gave (without_id events big 66 body) (λ found. Ok (record { time = found.time; event = OtherEvent })) r is in
    let same : record { time = time.value.time; event = OtherEvent } ≡ r = let e = time.gives in cc in
    sym (ap (λ (r : Record). r.event) same)

pub tells_nothing : (events : EventTable) (big : Bool) (header : RecordHeader) (body : List ℕ) (r : Record) → HasUncounted header.kind → Ok r ≡ record_by_type events big header body → r.event ≡ OtherEvent
tells_nothing events big header body r (inl kind) is =
    of_trace events big header body r (ap (λ (k : ℕ). record_by_type events big (record header { kind = k }) body) (sym kind) ∙ sym is)
tells_nothing events big header body r (inr kind) is =
    of_descriptions events big header body r (ap (λ (k : ℕ). record_by_type events big (record header { kind = k }) body) (sym kind) ∙ sym is)
