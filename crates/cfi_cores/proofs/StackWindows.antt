-- A number in a part of a segment's bytes is that in all of them.
use Rattle.std.proofs.Common.{◌≡◌, ◌∙◌, ◌≤◌, ◌<◌, ◌+◌, ◌-◌, ◌==◌, ℕ, zero, suc, Bool, true, false, List, [], ◌∷◌, length, take, drop, get_or, map, Option, Some, None, Result, Ok, Err, refl, sym, ap, subst, arith, length-drop, lit≤}
use Rattle.std.specs.Prelude.{nat_le, nat_lt, slice_range, if◌then◌else◌}
use Rattle.std.specs.Int.{Width, w8, w16, w32, w64, byte_len}
use Rattle.std.specs.Option.{option_and_then}
use Rattle.std.specs.List.Sorted.{IsNonDecreasingBy}
use Rattle.std.proofs.lemmas.Bool.{le-leb, leb-true, lt-leb, le-ltb}
use Rattle.std.proofs.lemmas.Bool.Decides.{nat_tests}
use Rattle.std.proofs.lemmas.List.{drop-drop, drop-take, length-take, take-take}
use Rattle.cfi_read_core.specs.declared.error.Error.{Error}
use Rattle.cfi_read_core.specs.declared.error.Error.TheVariants.{UnsupportedOffset}
use Rattle.cfi_read_core.specs.Addresses.{address, address_width, of_width}
use Rattle.cfi_read_core.specs.Numbers.{number_of, unsigned}
use Rattle.cfi_read_core.specs.ReadFunctions.{Extent, Read, Source, ◌>>=◌, ◌>>◌, bytes_of, give, refuse, skip, unexpected_eof}
use Rattle.cfi_read_core.specs.SliceReaders.{slice_over}
use Rattle.std.specs.Result.{result_ok}
use Rattle.cfi_expression.specs.Windows.{at_distance, number_in}
use Rattle.cfi_elf.specs.declared.program_header.ProgramHeader.{ProgramHeader}
use Rattle.cfi_cores.specs.StackWindows.{IsStackOf, IsSegmentWindow, start_from}
use Rattle.cfi_cores.specs.PartialCores.{segment_at}
use Rattle.cfi_cores.specs.CoreSegments.{CoreSegment, last_up_to, number_among}
use Rattle.cfi_cores.specs.CoreSegments as segments
use Rattle.cfi_cores.proofs.LastSegments.{last_passes}

ok_given : {A : Type 0} (r : Result A Error) (x : A) → result_ok r ≡ Some x → r ≡ Ok x
ok_given (Ok y) x is = let same : y ≡ x = cc in ap Ok same
ok_given (Err e) x is = absurd (cc)

-- ---- a number from a place on

module _ (size : ℕ) (source : Source) where
  by_offset : (k n : ℕ) (b : Bool) → result_ok (((λ (s : Source) (p : ℕ). (if b then give k else refuse UnsupportedOffset) s p) >>= λ n. skip n >> address size) source 0).value ≡ Some n
      → (b ≡ true) × (result_ok ((skip k >> address size) source 0).value ≡ Some n)
  by_offset k n true is = (refl, is)
  by_offset k n false is = absurd (cc)

  abbrev passed : ℕ → Bool → Read Extent
  passed k b s p = if b then record { value = Ok (record { first = p; last = p + k }); place = p + k } else record { value = Err (unexpected_eof p); place = p }

  by_skip : (k n : ℕ) (b : Bool) → result_ok (((passed k b >>= λ _. give {A = Unit {0}} tt) >> address size) source 0).value ≡ Some n → (b ≡ true) × ((address size source (0 + k)).value ≡ Ok n)
  by_skip k n true is = (refl, ok_given _ n is)
  by_skip k n false is = absurd (cc)

  pub record IsBehind (k n : ℕ) : Type 0 where
    pub low : nat_le k source.greatest ≡ true
    pub inside : nat_le k (source.last - 0) ≡ true
    pub number : (address size source (0 + k)).value ≡ Ok n

  pub is_behind : (k n : ℕ) → result_ok (at_distance k size source 0).value ≡ Some n → IsBehind k n
  is_behind k n is =
      let (low, rest) = by_offset k n (nat_le k source.greatest) is in
      let (inside, number) = by_skip k n (nat_le k (source.last - 0)) rest in
      record { low = low; inside = inside; number = number }

  pub behind_is : (k n : ℕ) → IsBehind k n → result_ok (at_distance k size source 0).value ≡ Some n
  behind_is k n at = rw (at.low, at.inside) (ap result_ok at.number)

  -- ---- by its width

  abbrev extent_at : ℕ → ℕ → Extent
  extent_at p n = record { first = p; last = p + n }

  by_bytes : (w : Width) (p n : ℕ) (b : Bool) → (((passed (byte_len w) b >>= λ extent s. give (bytes_of s extent) s) >>= λ bs s. give (number_of w s.big_endian bs) s) source p).value ≡ Ok n
      → (b ≡ true) × (number_of w source.big_endian (bytes_of source (extent_at p (byte_len w))) ≡ n)
  by_bytes w p n true is = (refl, cc)
  by_bytes w p n false is = absurd (cc)

  pub record IsOfWidth (p n : ℕ) : Type 0 where
    pub width : Width
    pub sized : address_width size ≡ Some width
    pub room : nat_le (byte_len width) (source.last - p) ≡ true
    pub value : number_of width source.big_endian (bytes_of source (extent_at p (byte_len width))) ≡ n

  by_width : (o : Option Width) (p n : ℕ) → address_width size ≡ o → (of_width o size source p).value ≡ Ok n → IsOfWidth p n
  unfolding unsigned
  by_width (Some w) p n sized is =
      let (room, value) = by_bytes w p n (nat_le (byte_len w) (source.last - p)) is in
      record { width = w; sized = sized; room = room; value = value }
  by_width None p n sized is = absurd (cc)

  pub is_of_width : (p n : ℕ) → (address size source p).value ≡ Ok n → IsOfWidth p n
  unfolding address
  is_of_width p n is = by_width (address_width size) p n refl is

  of_this : (w : Width) (p n : ℕ) → nat_le (byte_len w) (source.last - p) ≡ true → number_of w source.big_endian (bytes_of source (extent_at p (byte_len w))) ≡ n → (of_width (Some w) size source p).value ≡ Ok n
  unfolding unsigned
  of_this w p n room value = rw room (ap Ok value)

  pub of_width_is : (p n : ℕ) → IsOfWidth p n → (address size source p).value ≡ Ok n
  unfolding address
  of_width_is p n of = ap (λ (o : Option Width). (of_width o size source p).value) of.sized ∙ of_this of.width p n of.room of.value

-- each has a byte or more
some_bytes : (size : ℕ) (w : Width) → address_width size ≡ Some w → 1 ≤ byte_len w
some_bytes size w is = by (size == 1) (size == 2) (size == 4) (size == 8) is
  where
    this : (v : Width) → Some v ≡ Some w → 1 ≤ byte_len v → 1 ≤ byte_len w
    this v is some = let same : v ≡ w = cc in subst (λ (u : Width). 1 ≤ byte_len u) same some

    by : (a b c d : Bool) → (if a then Some w8 else if b then Some w16 else if c then Some w32 else if d then Some w64 else None) ≡ Some w → 1 ≤ byte_len w
    by true b c d is = this w8 is (lit≤ tt)
    by false true c d is = this w16 is (lit≤ tt)
    by false false true d is = this w32 is (lit≤ tt)
    by false false false true is = this w64 is (lit≤ tt)
    by false false false false is = absurd (cc)

-- ---- in a part of bytes

module _ (part all : List ℕ) (d : ℕ) (is : part ≡ take (length part) (drop d all)) where
  same_bytes : (k n : ℕ) → k + n ≤ length part → take n (drop k part) ≡ take n (drop (k + d) all)
  same_bytes k n fits =
      let long : k + (length part - k) ≡ length part = omega (arith, fits) in
      ap (λ (xs : List ℕ). take n (drop k xs)) (is ∙ ap (λ (m : ℕ). take m (drop d all)) (sym long))
      ∙ (ap (take n) (drop-take k (length part - k) (drop d all))
      ∙ (take-take n (length part - k) (drop k (drop d all)) (omega (arith, fits))
      ∙ (ap (take n) (drop-drop k d all) ∙ (let swapped : d + k ≡ k + d = omega arith in ap (λ (m : ℕ). take n (drop m all)) swapped))))

  taken_long : length part ≤ length all - d
  taken_long = omega (arith, ap length is, length-take (length part) (drop d all), length-drop d all)

  pub number_inside : (k size n : ℕ) → result_ok (at_distance k size (slice_over part false).source 0).value ≡ Some n → k < length part
  number_inside k size n read =
      let source = (slice_over part false).source in
      let of = is_of_width size source (0 + k) n (is_behind size source k n read).number in
      let some = some_bytes size of.width of.sized in
      let room : byte_len of.width ≤ length part - (0 + k) = leb-true _ _ of.room in
      omega (arith, room, some)

  -- the number there is that in all of them
  pub number_in_all : (k size n : ℕ) → k + d ≤ 18446744073709551615 → result_ok (at_distance k size (slice_over part false).source 0).value ≡ Some n
      → result_ok (at_distance (k + d) size (slice_over all false).source 0).value ≡ Some n
  number_in_all k size n low read =
      let source = (slice_over part false).source in
      let whole = (slice_over all false).source in
      let at = is_behind size source k n read in
      let of = is_of_width size source (0 + k) n at.number in
      let count = byte_len of.width in
      let some = some_bytes size of.width of.sized in
      let room : count ≤ length part - (0 + k) = leb-true _ _ of.room in
      let long = taken_long in
      let zero_k : 0 + k ≡ k = omega arith in
      let fits : k + count ≤ length part = omega (arith, room, some) in
      let same = same_bytes k count fits in
      behind_is size whole (k + d) n (record {
        low = le-leb _ _ low;
        inside = le-leb _ _ (omega (arith, fits, long, some));
        number = of_width_is size whole (0 + (k + d)) n (record {
          width = of.width;
          sized = of.sized;
          room = le-leb _ _ (omega (arith, fits, long, some));
          value = ap (number_of of.width false) (slice_is all (0 + (k + d)) (k + d) count (omega arith) ∙ (sym same ∙ sym (slice_is part (0 + k) k count zero_k))) ∙ of.value;
        });
      })
    where
      slice_is : (xs : List ℕ) (p q count : ℕ) → p ≡ q → slice_range xs p (p + count) ≡ take count (drop q xs)
      slice_is xs p q count same =
          let size : p + count - p ≡ count = omega arith in
          ap (λ (m : ℕ). take m (drop p xs)) size ∙ ap (λ (m : ℕ). take count (drop m xs)) same

-- ---- of the last segment that begins at or below it

get_or_same : (places : List ProgramHeader) (i : ℕ) (d e : ProgramHeader) → i < length places → get_or places i d ≡ get_or places i e
get_or_same [] i d e inside = absurd (omega arith)
get_or_same (place ∷ places) zero d e inside = refl
get_or_same (place ∷ places) (suc i) d e inside = get_or_same places i d e (omega (arith, inside))

pub past_them : (places : List ProgramHeader) (number : ℕ) → length places ≤ number → start_from places number ≡ 18446744073709551615
past_them [] number behind = refl
past_them (place ∷ places) zero behind = absurd (omega arith)
past_them (place ∷ places) (suc number) behind = past_them places number (omega (arith, behind))

pub from_there : (places : List ProgramHeader) (number : ℕ) (d : ProgramHeader) → number < length places → start_from places number ≡ (get_or places number d).p_vaddr
from_there [] number d inside = absurd (omega arith)
from_there (place ∷ places) zero d inside = refl
from_there (place ∷ places) (suc number) d inside = from_there places number d (omega (arith, inside))

read_there : (bytes : List ℕ) (start a size n : ℕ) → number_in (slice_over bytes false) start a size ≡ Some n → (start ≤ a) × (result_ok (at_distance (a - start) size (slice_over bytes false).source 0).value ≡ Some n)
read_there bytes start a size n is = by (nat_lt a start) refl is
  where
    by : (b : Bool) → nat_lt a start ≡ b → (if b then None else result_ok (at_distance (a - start) size (slice_over bytes false).source 0).value) ≡ Some n → (start ≤ a) × (result_ok (at_distance (a - start) size (slice_over bytes false).source 0).value ≡ Some n)
    by true e is = absurd (cc)
    by false e is = (grind (arith, nat_tests, e), is)

module _ (bytes : List ℕ) (places : List ProgramHeader) (count next : ℕ) (x : ProgramHeader) (order : IsNonDecreasingBy (λ (h : ProgramHeader). h.p_vaddr) places) (some : 0 < count) (inside : count ≤ length places)
    (next_is : next ≡ start_from places count) (low : next ≤ 18446744073709551615) (window : CoreSegment) where
  abbrev place : ProgramHeader
  place = get_or places (count - 1) x

  module _ (is : IsSegmentWindow (segment_at bytes place) next window) (a size n : ℕ) (number : segments.segment_number a size window ≡ Some n) where
    from_start : window.start ≤ a
    from_start = (read_there window.bytes window.start a size n number).0

    before_next : a < next
    before_next =
        let there = number_inside window.bytes (segment_at bytes place).bytes is.distance is.part (a - window.start) size n (read_there window.bytes window.start a size n number).1 in
        omega (arith, is.below, from_start, there)

    in_place : segments.segment_number a size (segment_at bytes place) ≡ Some n
    in_place =
        let distance : a - window.start + is.distance ≡ a - place.p_vaddr = omega (arith, is.start, from_start) in
        let above : place.p_vaddr ≤ a = omega (arith, is.start, from_start) in
        let near : a - window.start + is.distance ≤ 18446744073709551615 = omega (arith, distance, before_next, low) in
        let all = (segment_at bytes place).bytes in
        let read = number_in_all window.bytes all is.distance is.part (a - window.start) size n near (read_there window.bytes window.start a size n number).1 in
        let read_at : result_ok (at_distance (a - place.p_vaddr) size (slice_over all false).source 0).value ≡ Some n = subst (λ (k : ℕ). result_ok (at_distance k size (slice_over all false).source 0).value ≡ Some n) distance read in
        rw (le-ltb a place.p_vaddr above) read_at

    upto : (j : ℕ) (d : ProgramHeader) → j < suc (count - 1) → j < length places → nat_le (segment_at bytes (get_or places j d)).start a ≡ true
    upto j d less here =
        let last = count - 1 in
        let rises = order j last d (omega (arith, less, some)) (omega (arith, some, inside)) in
        let same : get_or places last d ≡ place = get_or_same places last d x (omega (arith, some, inside)) in
        let rises_to : (get_or places j d).p_vaddr ≤ place.p_vaddr = subst (λ (p : ProgramHeader). (get_or places j d).p_vaddr ≤ p.p_vaddr) same rises in
        le-leb _ _ (omega (arith, rises_to, is.start, from_start))

    behind_them : (j : ℕ) (d : ProgramHeader) → suc (count - 1) ≤ j → j < length places → nat_le (segment_at bytes (get_or places j d)).start a ≡ false
    behind_them j d up here =
        let rises = order count j d (omega (arith, up, some)) here in
        let there = from_there places count d (omega (arith, up, some, here)) in
        lt-leb _ _ (omega (arith, rises, there, next_is, before_next))

    in_segments : number_among (map (segment_at bytes) places) a size ≡ Some n
    in_segments =
        ap (option_and_then (segments.segment_number a size))
        (last_passes (segment_at bytes) (λ s. nat_le s.start a) places (count - 1) None x (omega (arith, some, inside)) upto behind_them)
        ∙ in_place

  pub stack_of : IsSegmentWindow (segment_at bytes place) next window → IsStackOf (map (segment_at bytes) places) window
  stack_of is = λ a size n number. in_segments is a size n number
