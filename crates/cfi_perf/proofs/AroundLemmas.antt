-- A profile without its records is that of the whole bytes.
use Rattle.std.specs.Prelude.{ok_or}
use Rattle.std.proofs.Common.{◌/◌, ◌≡◌, ◌≤◌, ◌<◌, ◌+◌, ◌-◌, ℕ, Bool, true, false, List, [], ◌∷◌, ◌++◌, Option, Some, None, Result, Ok, Err, refl, sym, ap, ◌∙◌, length, take, drop, arith, subst, ⊎_elim, min, append_assoc}
use Rattle.std.specs.Prelude.{◌==◌, ◌&&◌, ◌||◌, not, if◌then◌else◌, nat_le, nat_lt, slice_range, map, bit_and, count_ones}
use Rattle.std.specs.List.{list_all}
use Rattle.std.specs.Option.{is_some, option_or}
use Rattle.std.specs.Int.{w64}
use Rattle.std.proofs.Math.Seq.{drop-append-add, drop-append_seam, take-append_seam}
use Rattle.std.proofs.lemmas.Bool.{le-leb, lt-leb, ltb-false, cases_lt, eqb-true}
use Rattle.std.proofs.lemmas.List.{drop-append-le, drop-drop, length-append, length-drop, take-append-drop, take-append-le, take_min, drop_min}
use Rattle.cfi_read_core.specs.declared.endianity.RunTimeEndian.{RunTimeEndian}
use Rattle.cfi_read_core.specs.declared.error.Error.{Error}
use Rattle.cfi_read_core.specs.ByteOrder.{is_big}
use Rattle.cfi_read_core.specs.Numbers.{unsigned}
use Rattle.cfi_read_core.specs.SliceReaders.{slice_over}
use Rattle.cfi_perf.specs.declared.error.PerfError.{PerfError}
use Rattle.cfi_perf.specs.declared.event_entry.EventEntry.{EventEntry}
use Rattle.cfi_perf.specs.declared.file_header.FileHeader.{FileHeader}
use Rattle.cfi_perf.specs.declared.file_header.FileSection.{FileSection}
use Rattle.cfi_perf.specs.Results.{and_then, or_error}
use Rattle.cfi_perf.specs.ByteReads.{entries, part, read_from}
use Rattle.cfi_perf.specs.declared.error.PerfError.TheVariants.{AttributeSize, AttributesOutOfBounds, FeatureOutOfBounds, HeaderCut, HeaderSize}
use Rattle.cfi_perf.specs.EventNames.{event_name}
use Rattle.cfi_perf.specs.EventTables.{EventTable, KnownEvent, known_event, known_events, numbers_in}
use Rattle.cfi_perf.specs.EventEntries.{entry, events, first_event}
use Rattle.cfi_perf.specs.declared.event_entry.EntryForm.TheVariants.{Sized}
use Rattle.cfi_perf.specs.Pipes.{is_pipe, is_size}
use Rattle.cfi_perf.specs.Profiles.{Profile, file_profile, pipe_profile, profile, profile_by}
use Rattle.cfi_perf.specs.ProfilesAround.{IsAround, IsProfileAround, IsReadAs, has_all, has_feature, has_section, head_if, lies_between, profile_around, profile_of, sections_around}
use Rattle.cfi_perf.specs.EventSections.{EventSection, events_by}
use Rattle.cfi_perf.specs.ProfileHeads.{ProfileHead, head_of}
use Rattle.cfi_perf.specs.Sections.{Sections, architecture_in, after_records, build_ids, descriptions, event_table, feature_place, feature_section, or_nothing, records_at}
use Rattle.cfi_perf.specs.Architectures.{machine_by, text_in}
use Rattle.cfi_perf.specs.FileHeaders.{byte_order, file_header, header_fields, in_one_file}
use Rattle.cfi_perf.specs.FileParts.{SectionBytes, part_after, parts_around, file_parts}
use Rattle.cfi_perf.proofs.FixedReads.{fixed_header, fixed_size, same_from}
use Rattle.cfi_perf.proofs.RecordSteps.{part_fits}
use Rattle.cfi_perf.proofs.WindowSteps.{front_part}

-- ---- the bytes, by those that are left out

pub joined : (before after bytes : List ℕ) → take (length before) bytes ≡ before → drop (length bytes - length after) bytes ≡ after → length before + length after ≤ length bytes →
    bytes ≡ before ++ (take ((length bytes - length after) - length before) (drop (length before) bytes) ++ after)
joined before after bytes first last apart =
    let n : ℕ = length before in
    let k : ℕ = (length bytes - length after) - n in
    let end : n + k ≡ length bytes - length after = omega arith in
    let rest : drop k (drop n bytes) ≡ after = drop-drop k n bytes ∙ (ap (λ (i : ℕ). drop i bytes) end ∙ last) in
    sym (take-append-drop n bytes)
    ∙ (ap (λ (l : List ℕ). l ++ drop n bytes) first
    ∙ ap (λ (l : List ℕ). before ++ l) (sym (take-append-drop k (drop n bytes)) ∙ ap (λ (l : List ℕ). take k (drop n bytes) ++ l) rest))

-- ---- the header

module _ (front others : List ℕ) (some : 104 ≤ length front) where
  same_order : byte_order (front ++ others) ≡ byte_order front
  same_order = rw (take-append-le 8 front others (omega arith)) refl

  dropped : (n : ℕ) → n ≤ 16 → drop n (front ++ others) ≡ drop n front ++ others
  dropped n few = drop-append-le n front others (omega arith)

  same_size : (big : Bool) → read_from big (drop 8 (front ++ others)) (unsigned w64) ≡ read_from big (drop 8 front) (unsigned w64)
  same_size big =
      ap (λ (l : List ℕ). read_from big l (unsigned w64)) (dropped 8 (omega arith))
      ∙ same_from (unsigned w64) 8 fixed_size big (drop 8 front) others (omega (arith, length-drop 8 front))

  same_fields : (big : Bool) → read_from big (drop 16 (front ++ others)) header_fields ≡ read_from big (drop 16 front) header_fields
  same_fields big =
      ap (λ (l : List ℕ). read_from big l header_fields) (dropped 16 (omega arith))
      ∙ same_from header_fields 88 fixed_header big (drop 16 front) others (omega (arith, length-drop 16 front))

  abbrev by_size : Result FileHeader Error → ℕ → Result FileHeader PerfError
  by_size fields size = if not (size == 104) then Err (HeaderSize size) else and_then (or_error HeaderCut fields) in_one_file

  same_header : (endian : RunTimeEndian) → file_header endian (front ++ others) ≡ file_header endian front
  unfolding file_header
  same_header endian =
      let big : Bool = is_big endian in
      ap (λ (r : Result ℕ Error). and_then (or_error HeaderCut r) (by_size (read_from big (drop 16 (front ++ others)) header_fields))) (same_size big)
      ∙ ap (λ (r : Result FileHeader Error). and_then (or_error HeaderCut (read_from big (drop 8 front) (unsigned w64))) (by_size r)) (same_fields big)

-- ---- parts of the file

after_front : (front back : List ℕ) (o s : ℕ) → length front ≤ o → part (front ++ back) o s ≡ part back (o - length front) s
after_front front back o s past =
    let n : ℕ = o - length front in
    let all : length (front ++ back) ≡ length front + length back = length-append front back in
    let place : length front + n ≡ o = omega arith in
    let rest : drop o (front ++ back) ≡ drop n back = ap (λ (i : ℕ). drop i (front ++ back)) (sym place) ∙ drop-append-add front back n in
    let count : (o + s) - o ≡ (n + s) - n = omega arith in
    let range : slice_range (front ++ back) o (o + s) ≡ slice_range back n (n + s) = ap (λ (l : List ℕ). take ((o + s) - o) l) rest ∙ ap (λ (k : ℕ). take k (drop n back)) count in
    let fits : nat_le (o + s) (length (front ++ back)) ≡ nat_le (n + s) (length back) =
    ⊎_elim
    (λ (past : length back < n + s). lt-leb (o + s) (length (front ++ back)) (omega arith) ∙ sym (lt-leb (n + s) (length back) past))
    (λ (within : n + s ≤ length back). le-leb (o + s) (length (front ++ back)) (omega arith) ∙ sym (le-leb (n + s) (length back) within))
    (cases_lt (length back) (n + s)) in
    ap (λ (b : Bool). if b then Some (slice_range (front ++ back) o (o + s)) else None) fits
    ∙ ap (λ (l : List ℕ). if nat_le (n + s) (length back) then Some l else None) range

module _ (before among after : List ℕ) where
  abbrev all : List ℕ
  all = before ++ (among ++ after)

  abbrev end : ℕ
  end = length before + length among

  count_all : length all ≡ end + length after
  count_all = omega (arith, length-append before (among ++ after), length-append among after)

  later_part : (o s : ℕ) → end ≤ o → part all o s ≡ part after (o - end) s
  later_part o s past =
      let front : length (before ++ among) ≡ end = length-append before among in
      ap (λ (l : List ℕ). part l o s) (sym (append_assoc before among after))
      ∙ (after_front (before ++ among) after o s (omega (arith, front, past)) ∙ ap (λ (n : ℕ). part after (o - n) s) front)

  by_after : (place : FileSection) (b : Bool) → nat_lt place.offset end ≡ b → is_some (if b then None else part after (place.offset - end) place.size) ≡ true →
      file_parts all place ≡ (if b then None else part after (place.offset - end) place.size)
  by_after place true is some = absurd (cc)
  by_after place false is some = later_part place.offset place.size (ltb-false place.offset end is)

  by_front : (place : FileSection) (r : Option (List ℕ)) → file_parts before place ≡ r → is_some (option_or r (part_after end after place)) ≡ true →
      file_parts all place ≡ option_or r (part_after end after place)
  by_front place (Some found) is some = front_part before (among ++ after) place.offset place.size (part_fits before place.offset place.size found is) ∙ is
  by_front place None is some = by_after place (nat_lt place.offset end) refl some

  same_part : (place : FileSection) → is_some (parts_around before end after place) ≡ true → file_parts all place ≡ parts_around before end after place
  same_part place some = by_front place (file_parts before place) refl some

  -- the records, and what follows them
  module _ (place : FileSection) (from : place.offset ≡ length before) (to : min (place.offset + place.size) (length all) ≡ length all - length after) where
    same_records : records_at place all ≡ among
    same_records =
        let count : min place.size (length (among ++ after)) ≡ length among = omega (arith, count_all, length-append among after, from, to) in
        ap (λ (n : ℕ). take place.size (drop n all)) from
        ∙ (ap (λ (l : List ℕ). take place.size l) (drop-append_seam before (among ++ after))
        ∙ (sym (take_min place.size (among ++ after)) ∙ (ap (λ (n : ℕ). take n (among ++ after)) count ∙ take-append_seam among after)))

    same_after : after_records place all ≡ after
    same_after =
        let count : min (place.offset + place.size) (length all) ≡ length before + length among = omega (arith, count_all, to) in
        sym (drop_min (place.offset + place.size) all)
        ∙ (ap (λ (n : ℕ). drop n all) count ∙ (drop-append-add before (among ++ after) (length among) ∙ drop-append_seam among after))

-- ---- what the parts say

both : (a b : Bool) → (a && b) ≡ true → (a ≡ true) × (b ≡ true)
both true b is = (refl, is)
both false b is = absurd (cc)

other_of : (a b : Bool) → (a || b) ≡ true → a ≡ false → b ≡ true
other_of true b is not = absurd (cc)
other_of false b is not = is

if_same : {A : Type 0} (b : Bool) (z : A) (f : Result (List ℕ) PerfError → A) (x y : Result (List ℕ) PerfError) → (b ≡ false → x ≡ y) → (if b then z else f x) ≡ (if b then z else f y)
if_same true z f x y same = refl
if_same false z f x y same = ap f (same refl)

-- parts that are the same where these are at hand
module _ (s : Sections) (p : SectionBytes) (agree : (place : FileSection) → is_some (s.parts place) ≡ true → p place ≡ s.parts place) where
  abbrev moved : Sections
  moved = record s { parts = p }

  same_events : (big : Bool) (entries : List EventEntry) → list_all (λ e. is_some (s.parts e.ids)) entries ≡ true → map (known_event big p) entries ≡ map (known_event big s.parts) entries
  same_events big [] known = refl
  same_events big (e ∷ entries) known =
      let split = both (is_some (s.parts e.ids)) (list_all (λ e. is_some (s.parts e.ids)) entries) known in
      ap (λ (ids : Option (List ℕ)). record { attribute = e.attribute; ids = numbers_in big ids } ∷ map (known_event big p) entries) (agree e.ids split.0)
      ∙ ap (λ (others : List KnownEvent). known_event big s.parts e ∷ others) (same_events big entries split.1)

  at_place : (r : Result FileSection PerfError) → has_section s r ≡ true → and_then r (λ place. ok_or (p place) FeatureOutOfBounds) ≡ and_then r (λ place. ok_or (s.parts place) FeatureOutOfBounds)
  at_place (Ok place) has = ap (λ (o : Option (List ℕ)). ok_or o FeatureOutOfBounds) (agree place has)
  at_place (Err e) has = refl

  same_feature : (bit lower : ℕ) → has_feature s bit lower ≡ true → (bit_and s.features bit == 0) ≡ false → feature_section moved (count_ones (bit_and s.features lower)) ≡ feature_section s (count_ones (bit_and s.features lower))
  same_feature bit lower has set =
      let place = feature_place s (count_ones (bit_and s.features lower)) in
      at_place place (other_of (bit_and s.features bit == 0) (has_section s place) has set)

  same_descriptions : has_feature s 0x1000 0xfff ≡ true → descriptions moved ≡ descriptions s
  unfolding descriptions
  same_descriptions has = if_same (bit_and s.features 0x1000 == 0) [] or_nothing _ _ (same_feature 0x1000 0xfff has)

  same_builds : has_feature s 0x4 0x3 ≡ true → build_ids moved ≡ build_ids s
  unfolding build_ids
  same_builds has = if_same (bit_and s.features 0x4 == 0) [] or_nothing _ _ (same_feature 0x4 0x3 has)

  abbrev named : Result (List ℕ) PerfError → Result (Option (List ℕ)) PerfError
  named contents = and_then contents (λ contents. and_then (text_in (is_big s.endian) contents) (λ name. Ok (Some name)))

  same_architecture : has_feature s 0x40 0x3f ≡ true → architecture_in moved ≡ architecture_in s
  unfolding architecture_in
  same_architecture has =
      ap (λ (r : Result (Option (List ℕ)) PerfError). if s.is_cut then Ok (machine_by (is_big s.endian) s.events.first.attribute.layout.sample_regs_user) else r)
      (if_same (bit_and s.features 0x40 == 0) (Ok None) named _ _ (same_feature 0x40 0x3f has))

  abbrev table_by : List ℕ → List KnownEvent → List ℕ → EventTable
  table_by descriptions entries build_ids = record {
    big_endian = is_big s.endian;
    descriptions = descriptions;
    entries = entries;
    first = record { layout = s.events.first.attribute.layout; name = event_name (is_big s.endian) descriptions 0 s.events.first.attribute };
    is_alone = s.events.count == 1;
    build_ids = build_ids;
  }

  same_table : has_all s ≡ true → event_table moved ≡ event_table s
  unfolding event_table
  same_table has =
      let first = both _ _ has in
      let second = both _ _ first.1 in
      let third = both _ _ second.1 in
      let entries = same_events (is_big s.endian) (entries s.events.count (entry s.events.form) (slice_over s.events.attrs (is_big s.endian)).source 0) first.0 in
      ap (λ (d : List ℕ). table_by d (known_events (is_big s.endian) p s.events.count s.events.form s.events.attrs) (build_ids moved)) (same_descriptions third.1)
      ∙ (ap (λ (es : List KnownEvent). table_by (descriptions s) es (build_ids moved)) entries
      ∙ ap (λ (b : List ℕ). table_by (descriptions s) (known_events (is_big s.endian) s.parts s.events.count s.events.form s.events.attrs) b) (same_builds second.0))

  abbrev head_by : ℕ → EventTable → Result (Option (List ℕ)) PerfError → ProfileHead
  head_by size events architecture = record { endian = s.endian; events = events; architecture = architecture; place = s.end - size; size = size; is_cut = s.is_cut }

  pub same_head : (size : ℕ) → has_all s ≡ true → head_of moved size ≡ head_of s size
  same_head size has =
      let first = both _ _ has in
      let second = both _ _ first.1 in
      let third = both _ _ second.1 in
      ap (λ (t : EventTable). head_by size t (architecture_in moved)) (same_table has) ∙ ap (λ (a : Result (Option (List ℕ)) PerfError). head_by size (event_table s) a) (same_architecture third.0)

-- ---- the whole

abbrev by_attrs : RunTimeEndian → FileHeader → Option (List ℕ) → Result EventSection PerfError
by_attrs endian header attrs =
    if nat_lt header.attr_size 112 then Err (AttributeSize header.attr_size)
    else and_then (ok_or attrs AttributesOutOfBounds) (λ attrs.
    and_then (first_event (events (is_big endian) header.attr_size attrs)) (λ first.
    Ok (record { form = Sized header.attr_size; count = length attrs / header.attr_size; attrs = attrs; first = first })))

found_part : (o : Option (List ℕ)) → is_some o ≡ true → (l : List ℕ) × (o ≡ Some l)
found_part (Some l) is = (l, refl)
found_part None is = absurd (cc)

same_section : (before others : List ℕ) (endian : RunTimeEndian) (header : FileHeader) → is_some (file_parts before header.attrs) ≡ true → events_by endian (before ++ others) header ≡ events_by endian before header
unfolding events_by
same_section before others endian header is =
    let attrs = found_part (file_parts before header.attrs) is in
    ap (by_attrs endian header) (front_part before others header.attrs.offset header.attrs.size (part_fits before header.attrs.offset header.attrs.size attrs.0 attrs.1))

if_none : (bytes : List ℕ) (p : Result Profile PerfError) (q : Result (Option ProfileHead) PerfError) (b : Bool) → (b ≡ false → IsReadAs bytes p q) → IsReadAs bytes p (if b then Ok None else q)
if_none bytes p q true read = tt
if_none bytes p q false read = read refl

if_either : (bytes : List ℕ) (p r : Result Profile PerfError) (q : Result (Option ProfileHead) PerfError) (b : Bool) → IsReadAs bytes r q → IsReadAs bytes (if b then p else r) (if b then Ok None else q)
if_either bytes p r q true read = tt
if_either bytes p r q false read = read

if_head : (bytes : List ℕ) (p : Profile) (head : ProfileHead) (b : Bool) → (b ≡ true → p ≡ profile_of bytes head) → IsReadAs bytes (Ok p) (Ok (if b then Some head else None))
if_head bytes p head true is = ap (λ (p : Profile). let r : Result Profile PerfError = Ok p in r) (is refl)
if_head bytes p head false is = tt

then_read : {A : Type 0} (bytes : List ℕ) (r : Result A PerfError) (f : A → Result Profile PerfError) (g : A → Result (Option ProfileHead) PerfError) → ((x : A) → IsReadAs bytes (f x) (g x)) →
    IsReadAs bytes (and_then r f) (and_then r g)
then_read bytes (Ok x) f g read = read x
then_read bytes (Err e) f g read = refl

not_false : (b : Bool) → not b ≡ false → b ≡ true
not_false true is = refl
not_false false is = absurd (cc)

module _ (before among after : List ℕ) where
  abbrev bytes : List ℕ
  bytes = before ++ (among ++ after)

  abbrev count : ℕ
  count = length bytes

  abbrev size : ℕ
  size = (count - length after) - length before

  same_count : count - length after ≡ length before + length among
  same_count = omega (arith, count_all before among after)

  same_size_of : size ≡ length among
  same_size_of = omega (arith, same_count)

  agree_at : (e : ℕ) → length before + length among ≡ e → (place : FileSection) → is_some (parts_around before e after place) ≡ true → file_parts bytes place ≡ parts_around before e after place
  agree_at e is place = subst (λ (e : ℕ). is_some (parts_around before e after place) ≡ true → file_parts bytes place ≡ parts_around before e after place) is (same_part before among after place)

  module _ (endian : RunTimeEndian) (header : FileHeader) (events : EventSection) where
    abbrev around : Sections
    around = sections_around endian before after count header events

    abbrev made : ℕ → List ℕ → Sections
    made n after = record { parts = file_parts bytes; endian = endian; events = events; features = header.features; is_cut = nat_lt n header.records.size; end = count - length after; after = after }

    abbrev made_profile : ℕ → List ℕ → List ℕ → Profile
    made_profile n after records = record { head = head_of (made n after) n; records = records }

    again : take size (drop ((count - length after) - size) bytes) ≡ among
    again =
        let place : (count - length after) - size ≡ length before = omega (arith, same_count, same_size_of) in
        ap (λ (n : ℕ). take size (drop n bytes)) place
        ∙ (ap (λ (l : List ℕ). take size l) (drop-append_seam before (among ++ after))
        ∙ (ap (λ (n : ℕ). take n (among ++ after)) same_size_of ∙ take-append_seam among after))

    is_whole : lies_between header before after count ≡ true → has_all around ≡ true → profile_by endian bytes header events ≡ profile_of bytes (head_of around size)
    is_whole lies has =
        let first = both _ _ lies in
        let second = both _ _ first.1 in
        let from : header.records.offset ≡ length before = eqb-true _ _ first.0 in
        let to : min (header.records.offset + header.records.size) count ≡ count - length after = eqb-true _ _ second.0 in
        let records : records_at header.records bytes ≡ among = same_records before among after header.records from to in
        let after' : after_records header.records bytes ≡ after = same_after before among after header.records from to in
        let counted : length (records_at header.records bytes) ≡ size = ap length records ∙ sym same_size_of in
        ap (λ (n : ℕ). made_profile n (after_records header.records bytes) (records_at header.records bytes)) counted
        ∙ (ap (λ (l : List ℕ). made_profile size l (records_at header.records bytes)) after'
        ∙ (ap (λ (l : List ℕ). made_profile size after l) (records ∙ sym again)
        ∙ ap (λ (head : ProfileHead). record { head = head; records = take size (drop ((count - length after) - size) bytes) })
        (same_head around (file_parts bytes) (agree_at (count - length after) (sym same_count)) size has)))

  abbrev whole_of : RunTimeEndian → FileHeader → Result Profile PerfError
  whole_of endian header = and_then (events_by endian bytes header) (λ events. Ok (profile_by endian bytes header events))

  abbrev around_of : RunTimeEndian → FileHeader → Result (Option ProfileHead) PerfError
  around_of endian header =
      if not (lies_between header before after count) then Ok None
      else and_then (events_by endian before header) (λ events. Ok (head_if (around endian header events) size))

  by_header : (endian : RunTimeEndian) (header : FileHeader) → IsReadAs bytes (whole_of endian header) (around_of endian header)
  by_header endian header =
      if_none bytes (whole_of endian header) (and_then (events_by endian before header) (λ events. Ok (head_if (around endian header events) size))) (not (lies_between header before after count))
      (λ (known : not (lies_between header before after count) ≡ false).
      let lies = not_false (lies_between header before after count) known in
      let attrs = (both _ _ ((both _ _ lies).1)).1 in
      let same = same_section before (among ++ after) endian header attrs in
      subst (λ (r : Result EventSection PerfError). IsReadAs bytes (and_then r (λ events. Ok (profile_by endian bytes header events))) (and_then (events_by endian before header) (λ events. Ok (head_if (around endian header events) size)))) (sym same)
      (then_read bytes (events_by endian before header) (λ events. Ok (profile_by endian bytes header events)) (λ events. Ok (head_if (around endian header events) size))
      (λ (events : EventSection). if_head bytes (profile_by endian bytes header events) (head_of (around endian header events) size) (has_all (around endian header events)) (is_whole endian header events lies))))

  module _ (some : 104 ≤ length before) (endian : RunTimeEndian) where
    same_pipe : is_pipe endian bytes ≡ is_pipe endian before
    same_pipe = ap (λ (r : Result ℕ Error). is_size r 16) (same_size before (among ++ after) some (is_big endian))

    same_file : file_profile endian bytes ≡ and_then (file_header endian before) (whole_of endian)
    unfolding file_profile
    same_file = ap (λ (r : Result FileHeader PerfError). and_then r (whole_of endian)) (same_header before (among ++ after) some endian)

    same_kind : (if is_pipe endian bytes then pipe_profile endian bytes else file_profile endian bytes)
        ≡ (if is_pipe endian before then pipe_profile endian bytes else and_then (file_header endian before) (whole_of endian))
    same_kind =
        ap (λ (b : Bool). if b then pipe_profile endian bytes else file_profile endian bytes) same_pipe
        ∙ ap (λ (r : Result Profile PerfError). if is_pipe endian before then pipe_profile endian bytes else r) same_file

  abbrev kind_of : RunTimeEndian → Result Profile PerfError
  kind_of endian = if is_pipe endian before then pipe_profile endian bytes else and_then (file_header endian before) (whole_of endian)

  abbrev around_kind : RunTimeEndian → Result (Option ProfileHead) PerfError
  around_kind endian = if is_pipe endian before then Ok None else and_then (file_header endian before) (around_of endian)

  profile_read : 104 ≤ length before → profile bytes ≡ and_then (byte_order before) kind_of
  unfolding profile
  profile_read some =
      ap (λ (r : Result RunTimeEndian PerfError). and_then r (λ endian. if is_pipe endian bytes then pipe_profile endian bytes else file_profile endian bytes)) (same_order before (among ++ after) some)
      ∙ ap (λ (f : RunTimeEndian → Result Profile PerfError). and_then (byte_order before) f) (λ i endian. same_kind some endian i)

  by_kind : (endian : RunTimeEndian) → IsReadAs bytes (kind_of endian) (around_kind endian)
  by_kind endian =
      if_either bytes (pipe_profile endian bytes) (and_then (file_header endian before) (whole_of endian)) (and_then (file_header endian before) (around_of endian)) (is_pipe endian before)
      (then_read bytes (file_header endian before) (whole_of endian) (around_of endian) (λ (header : FileHeader). by_header endian header))

  around_joined : IsReadAs bytes (profile bytes) (profile_around before after count)
  unfolding profile_around
  around_joined =
      if_none bytes (profile bytes) (and_then (byte_order before) around_kind) (nat_lt (length before) 104)
      (λ (large : nat_lt (length before) 104 ≡ false).
      subst (λ (p : Result Profile PerfError). IsReadAs bytes p (and_then (byte_order before) around_kind)) (sym (profile_read (ltb-false (length before) 104 large)))
      (then_read bytes (byte_order before) kind_of around_kind (λ (endian : RunTimeEndian). by_kind endian)))

-- what is read of the first and the last bytes is the profile
pub is_around : (before after : List ℕ) (count : ℕ) (bytes : List ℕ) → IsAround before after count bytes → IsProfileAround bytes (profile_around before after count)
is_around before after total bytes of =
    let among : List ℕ = take ((length bytes - length after) - length before) (drop (length before) bytes) in
    let is : bytes ≡ before ++ (among ++ after) = joined before after bytes of.first of.last of.apart in
    subst (λ (n : ℕ). IsProfileAround bytes (profile_around before after n)) of.all
    (subst (λ (l : List ℕ). IsProfileAround l (profile_around before after (length l))) (sym is) (around_joined before among after))
