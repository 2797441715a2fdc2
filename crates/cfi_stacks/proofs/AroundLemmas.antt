-- A profile of which the bytes of the records are read by parts.
use Rattle.std.proofs.Common.{◌≡◌, ◌∙◌, ◌≤◌, ◌+◌, ◌-◌, ℕ, Bool, true, false, List, [], ◌++◌, Option, Some, None, Result, Ok, Err, IfSome, ap, append_assoc, arith, drop, length, length-append, refl, replicate, subst, sym, take}
use Rattle.std.proofs.Math.Seq.{drop-append_seam, take-append_seam}
use Rattle.std.proofs.lemmas.Bool.{leb-true}
use Rattle.std.proofs.lemmas.List.{length-drop, length-replicate, length-take, nil_from_length, take_all}
use Rattle.std.specs.Prelude.{if◌then◌else◌, nat_le, nat_lt, not, slice_range}
use Rattle.cfi_elf.specs.Fields.{part}
use Rattle.cfi_object.specs.FileInputs.{IsLength, IsPartRead}
use Rattle.cfi_text.specs.Readings.{AreLeft}
use Rattle.cfi_perf.specs.declared.error.PerfError.{PerfError}
use Rattle.cfi_perf.specs.FileHeaders.{byte_order, file_header}
use Rattle.cfi_perf.specs.Pipes.{is_pipe}
use Rattle.cfi_perf.specs.Profiles.{Profile, profile}
use Rattle.cfi_perf.specs.ProfilesAround.{IsAround, IsProfileAround, has_all, head_if, lies_between, profile_around, profile_of, sections_around}
use Rattle.cfi_perf.specs.Results.{and_then}
use Rattle.cfi_perf.specs.ProfileHeads.{ProfileHead, head_of}
use Rattle.cfi_perf.specs.Sections.{Sections}
use Rattle.cfi_perf.specs.EventSections.{events_by}
use Rattle.cfi_perf.proofs.AroundLemmas.{is_around}
use Rattle.cfi_perf.proofs.PlaceLemmas.{records_counted, records_placed}
use Rattle.cfi_stacks.specs.ProfileIndexes.{AreBytesAt, HasRecordsAt, IsReadAround}

-- ---- how many bytes lie between, and where

abbrev Head : Type 0
Head = Result (Option ProfileHead) PerfError

not_none : (b : Bool) (r : Head) (head : ProfileHead) → (if b then Ok None else r) ≡ Ok (Some head) → r ≡ Ok (Some head)
not_none true r head is = absurd (cc)
not_none false r head is = is

if_made : (b : Bool) (made head : ProfileHead) → ◌≡◌ {A = Head} (Ok (if b then Some made else None)) (Ok (Some head)) → made ≡ head
if_made true made head is = cc
if_made false made head is = absurd (cc)

made_placed : (s : Sections) (size : ℕ) (head : ProfileHead) → ◌≡◌ {A = Head} (Ok (head_if s size)) (Ok (Some head)) → (head.size ≡ size) × (head.place ≡ s.end - size)
made_placed s size head is =
    let same : head_of s size ≡ head = if_made (has_all s) (head_of s size) head is in
    (sym (ap (λ (h : ProfileHead). h.size) same), sym (ap (λ (h : ProfileHead). h.place) same))

-- what holds of a head behind any value holds behind a result
then_placed : {A : Type 0} (r : Result A PerfError) (next : A → Head) (P : ProfileHead → Type 0) (head : ProfileHead) → ((x : A) → next x ≡ Ok (Some head) → P head) → and_then r next ≡ Ok (Some head) → P head
then_placed (Ok x) next P head each is = each x is
then_placed (Err e) next P head each is = absurd (cc)

module _ (before behind : List ℕ) (count : ℕ) where
  abbrev between : ℕ
  between = (count - length behind) - length before

  abbrev IsPlaced : ProfileHead → Type 0
  IsPlaced head = (head.size ≡ between) × (head.place ≡ (count - length behind) - between)

  pub head_placed : (head : ProfileHead) → profile_around before behind count ≡ Ok (Some head) → (head.size ≡ between) × (head.place ≡ (count - length behind) - between)
  unfolding profile_around
  head_placed head is =
      then_placed (byte_order before)
      (λ endian.
      if is_pipe endian before then Ok None
      else and_then (file_header endian before) (λ header.
      if not (lies_between header before behind count) then Ok None
      else and_then (events_by endian before header) (λ events. Ok (head_if (sections_around endian before behind count header events) between))))
      IsPlaced head
      (λ endian of_order.
      then_placed (file_header endian before)
      (λ header.
      if not (lies_between header before behind count) then Ok None
      else and_then (events_by endian before header) (λ events. Ok (head_if (sections_around endian before behind count header events) between)))
      IsPlaced head
      (λ header of_header.
      then_placed (events_by endian before header) (λ events. Ok (head_if (sections_around endian before behind count header events) between)) IsPlaced head
      (λ events of_events. made_placed (sections_around endian before behind count header events) between head of_events)
      (not_none (not (lies_between header before behind count)) _ head of_header))
      (not_none (is_pipe endian before) _ head of_order))
      (not_none (nat_lt (length before) 104) _ head is)

-- ---- bytes that begin and end so

part_of : (bytes : List ℕ) (place size : ℕ) → slice_range bytes place (place + size) ≡ take size (drop place bytes)
part_of bytes place size = let n : (place + size) - place ≡ size = omega arith in ap (λ (n : ℕ). take n (drop place bytes)) n

module _ (before all behind : List ℕ) where
  abbrev joined : List ℕ
  joined = before ++ (all ++ behind)

  joined_length : length joined ≡ length before + (length all + length behind)
  joined_length = omega (arith, length-append before (all ++ behind), length-append all behind)

  last_of : drop (length joined - length behind) joined ≡ behind
  last_of =
      let n : length joined - length behind ≡ length (before ++ all) = omega (arith, joined_length, length-append before all) in
      ap (λ (n : ℕ). drop n joined) n ∙ (ap (λ (l : List ℕ). drop (length (before ++ all)) l) (sym (append_assoc before all behind)) ∙ drop-append_seam (before ++ all) behind)

  pub are_around : (count : ℕ) → length before + (length all + length behind) ≡ count → IsAround before behind count joined
  are_around count is = record {
    first = take-append_seam before (all ++ behind);
    last = last_of;
    apart = omega (arith, joined_length);
    all = joined_length ∙ is;
  }

  all_between : (place size : ℕ) → place ≡ length before → length all ≡ size → take size (drop place joined) ≡ all
  all_between place size at long =
      ap (λ (n : ℕ). take size (drop n joined)) at
      ∙ (ap (λ (l : List ℕ). take size l) (drop-append_seam before (all ++ behind)) ∙ (ap (λ (n : ℕ). take n (all ++ behind)) (sym long) ∙ take-append_seam all behind))

if_found : (b : Bool) (xs ys : List ℕ) → (if b then Some xs else None) ≡ Some ys → (b ≡ true) × (xs ≡ ys)
if_found true xs ys is = let same : xs ≡ ys = cc in (refl, same)
if_found false xs ys is = absurd (cc)

-- what was read is right of some bytes, and of these where they are the known ones
pub read_around : (known : Option (List ℕ)) (before behind : List ℕ) (count : ℕ) → length before + length behind ≤ count → IfSome known (λ file. IsAround before behind count file) → IsReadAround known before behind count
read_around None before behind count apart is =
    let n : ℕ = (count - length behind) - length before in
    let zeros : List ℕ = replicate n 0 in
    (before ++ (zeros ++ behind), tt, are_around before zeros behind count (omega (arith, apart, length-replicate {A = ℕ} n 0)))
read_around (Some file) before behind count apart is = (file, refl, is)

-- a part of the file that was read
part_found : (all : List ℕ) (offset size : ℕ) (found : List ℕ) → part all offset size ≡ Some found → (offset + size ≤ length all) × (take size (drop offset all) ≡ found)
part_found all offset size found is =
    let (fits, same) = if_found (nat_le (offset + size) (length all)) (slice_range all offset (offset + size)) found is in
    (leb-true (offset + size) (length all) fits, sym (part_of all offset size) ∙ same)

-- both sides
pub sides_read : (known : Option (List ℕ)) (before behind : List ℕ) (start end count : ℕ) → IsLength known count → start ≤ end → end ≤ count → IsPartRead known 0 start before → IsPartRead known end (count - end) behind
    → IsReadAround known before behind count
sides_read None before behind start end count long first last (size, is) (size', is') = read_around None before behind count (omega (arith, first, last, size, size')) tt
sides_read (Some file) before behind start end count long first last (size, is) (size', is') =
    let (fits, same) = part_found file 0 start before is in
    let (fits', same') = part_found file end (count - end) behind is' in
    let at : length file - length behind ≡ end = omega (arith, long, size', last) in
    let rest : length (drop end file) ≤ count - end = omega (arith, length-drop end file, long) in
    read_around (Some file) before behind count (omega (arith, first, last, size, size')) (record {
      first = ap (λ (n : ℕ). take n file) size ∙ same;
      last = ap (λ (n : ℕ). drop n file) at ∙ (sym (take_all (count - end) (drop end file) rest) ∙ same');
      apart = omega (arith, first, last, size, size', long);
      all = sym long;
    })

-- the first bytes alone
pub first_read : (known : Option (List ℕ)) (first : List ℕ) (size count : ℕ) → IsLength known count → size ≤ count → IsPartRead known 0 size first → IsReadAround known first [] count
first_read None first size count long within (n, is) = read_around None first [] count (omega (arith, within, n)) tt
first_read (Some file) first size count long within (n, is) =
    let (fits, same) = part_found file 0 size first is in
    read_around (Some file) first [] count (omega (arith, within, n)) (record {
      first = ap (λ (n : ℕ). take n file) n ∙ same;
      last = nil_from_length (drop (length file - 0) file) (omega (arith, length-drop (length file - 0) file));
      apart = omega (arith, within, n, long);
      all = sym long;
    })

-- ---- the profile of these bytes

module _ (before behind : List ℕ) (count : ℕ) (head : ProfileHead) (read : profile_around before behind count ≡ Ok (Some head)) where
  is_profile : (bytes : List ℕ) → IsAround before behind count bytes → profile bytes ≡ Ok (profile_of bytes head)
  is_profile bytes of = subst (λ (r : Head). IsProfileAround bytes r) read (is_around before behind count bytes of)

  with_records : (bytes all : List ℕ) → IsAround before behind count bytes → take head.size (drop head.place bytes) ≡ all → profile bytes ≡ Ok (record { head = head; records = all })
  with_records bytes all of is = is_profile bytes of ∙ ap (λ (l : List ℕ). let r : Result Profile PerfError = Ok (record { head = head; records = l }) in r) is

  placed : (bytes : List ℕ) → IsAround before behind count bytes → (head.place ≡ length before) × (head.place + head.size + length behind ≡ length bytes)
  placed bytes of =
      let (size, place) = head_placed before behind count head read in
      (omega (arith, size, place, of.apart, of.all), omega (arith, size, place, of.apart, of.all))

  pub has_records : (known : Option (List ℕ)) → IsReadAround known before behind count → HasRecordsAt known head.place head.size
  has_records None (bytes, left, of) = tt
  has_records (Some file) (bytes, left, of) =
      let (at, whole) = placed bytes of in
      let n : length file ≡ length bytes = ap length (sym left) in
      omega (arith, n, whole, length-take ((head.place + head.size) - head.place) (drop head.place file), length-drop head.place file)

  pub whole_of : (known : Option (List ℕ)) (all : List ℕ) → IsReadAround known before behind count → AreBytesAt known head.place head.size all
      → (bytes : List ℕ) × AreLeft known bytes × (profile bytes ≡ Ok (record { head = head; records = all }))
  whole_of None all (bytes, left, of) (long, same) =
      let (at, whole) = placed bytes of in
      let around = are_around before all behind count (omega (arith, at, whole, long, of.all)) in
      (before ++ (all ++ behind), tt, with_records (before ++ (all ++ behind)) all around (all_between before all behind head.place head.size at long))
  whole_of (Some file) all (bytes, left, of) (long, same) =
      let around = subst (λ (l : List ℕ). IsAround before behind count l) left of in
      (file, refl, with_records file all around (sym (same ∙ part_of file head.place head.size)))

-- ---- of all bytes

module _ (bytes : List ℕ) (p : Profile) (is : profile bytes ≡ Ok p) where
  pub has_own_records : HasRecordsAt (Some bytes) p.head.place p.head.size
  has_own_records = ap length (part_of bytes p.head.place p.head.size ∙ records_placed bytes p is) ∙ sym (records_counted bytes p is)

  pub own_records : (all : List ℕ) → AreBytesAt (Some bytes) p.head.place p.head.size all → all ≡ p.records
  own_records all (long, same) = same ∙ (part_of bytes p.head.place p.head.size ∙ records_placed bytes p is)
