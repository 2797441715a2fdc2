-- Texts that end in a zero byte.
use Rattle.std.proofs.Common.{◌≡◌, ◌≤◌, ◌<◌, ◌+◌, ◌-◌, ℕ, Bool, true, false, List, length, take, drop, Some, None, Ok, Err, Result, refl, sym, ap, subst, ◌∙◌, arith}
use Rattle.std.specs.Prelude.{ok_or, cond, nat_lt, nat_le, not, ◌==◌, if◌then◌else◌}
use Rattle.std.specs.List.{prefix_len}
use Rattle.std.specs.Int.{w8}
use Rattle.cfi_read_core.specs.declared.error.Error.{Error}
use Rattle.cfi_read_core.specs.ReadFunctions.{Source, Position, Outcome, Extent, rest, unexpected_eof, split}
use Rattle.cfi_read_core.specs.Numbers.{unsigned, text}
use Rattle.cfi_read_core.specs.ReaderCalls.{IsPartOf, bytes_left, extent_of, find_byte}
use Rattle.cfi_read_core.proofs.Leb128.{unsigned_room}
use Rattle.std.proofs.lemmas.Bool.{ltb-true, leb-true}
use Rattle.std.proofs.lemmas.List.{take-take, length-take}
use Rattle.std.proofs.Math.Nat.{min-le_left}

found : (t : Bool) (m n : ℕ) (e : Error) → ok_or (cond t (Some m) None) e ≡ Ok n → (t ≡ true) × (m ≡ n)
found true m n e h = (refl, cc)
found false m n e h = absurd (cc)

abbrev answered : Bool → ℕ → Source → ℕ → Outcome (List ℕ)
answered t n source place =
    if t then record { value = Ok (take n (rest source place)); place = place + n + 1 } else record { value = Err (unexpected_eof place); place = place }

abbrev zero_at : Source → ℕ → ℕ
zero_at source place = prefix_len (λ b. not (b == 0)) (rest source place)

pub text_there : (s : Position) (n : ℕ) → Ok n ≡ find_byte 0 s →
    (text s.source s.place ≡ record { value = Ok (take n (bytes_left s)); place = s.place + n + 1 }) × (n < length (bytes_left s))
unfolding text
text_there s n h =
    let m = zero_at s.source s.place in
    let both = found (nat_lt m (length (bytes_left s))) m n (unexpected_eof s.place) (sym h) in (
      ap (λ (t : Bool). answered t m s.source s.place) both.0 ∙ ap (λ (k : ℕ). answered true k s.source s.place) both.1,
      subst (λ (k : ℕ). k < length (bytes_left s)) both.1 (ltb-true m (length (bytes_left s)) both.0),
    )

-- ---- a split

split_by : (b : Bool) (n place p : ℕ) (extent : Extent) → (let o : Outcome Extent = if b then record { value = Ok (record { first = place; last = place + n }); place = place + n } else record { value = Err (unexpected_eof place); place = place } in o) ≡ record { value = Ok extent; place = p } →
    (b ≡ true) × (extent ≡ record { first = place; last = place + n }) × (p ≡ place + n)
split_by true n place p extent h =
    let same : record { first = place; last = place + n } ≡ extent = ap (λ (o : Outcome Extent). by_value o.value) h in (refl, sym same, sym (ap (λ (o : Outcome Extent). o.place) h))
  where
    by_value : Result Extent Error → Extent
    by_value (Ok x) = x
    by_value (Err e) = extent
split_by false n place p extent h =
    let value : Err (unexpected_eof place) ≡ Ok extent = ap (λ (o : Outcome Extent). o.value) h in absurd (cc)

pub split_gives : (source : Source) (place n p : ℕ) (extent : Extent) → split n source place ≡ record { value = Ok extent; place = p } →
    (n ≤ source.last - place) × (extent ≡ record { first = place; last = place + n }) × (p ≡ place + n)
split_gives source place n p extent h =
    let both = split_by (nat_le n (source.last - place)) n place p extent h in (leb-true n (source.last - place) both.0, both.1, both.2)

-- the bytes of a part at the front
pub front_bytes : (s part : Position) (n : ℕ) → n ≤ s.source.last - s.place → IsPartOf part s → extent_of part ≡ record { first = s.place; last = s.place + n } → take n (bytes_left s) ≡ bytes_left part
front_bytes s part n room is extent =
    let whole : part.source.whole ≡ s.source.whole = ap (λ (source : Source). source.whole) is in
    let first : part.place ≡ s.place = ap (λ (e : Extent). e.first) extent in
    let last : part.source.last ≡ s.place + n = ap (λ (e : Extent). e.last) extent in
    let count : part.source.last - part.place ≡ n = omega arith in
    take-take n (s.source.last - s.place) (drop s.place s.source.whole) room
    ∙ sym (ap (λ (k : ℕ). take k (drop part.place part.source.whole)) count ∙ ap (λ (p : ℕ). take n (drop p part.source.whole)) first ∙ ap (λ (bs : List ℕ). take n (drop s.place bs)) whole)

inside : (s : Position) (n : ℕ) → n < length (bytes_left s) → s.place + n < s.source.last
inside s n there =
    let count = length-take (s.source.last - s.place) (drop s.place s.source.whole) in
    let fewer = min-le_left (s.source.last - s.place) (length (drop s.place s.source.whole)) in
    omega (arith, count, fewer)

-- ---- the zero after a text is a byte that is there

pub zero_read : (s : Position) (n z p : ℕ) → n < length (bytes_left s) → unsigned w8 s.source (s.place + n) ≡ record { value = Ok z; place = p } → p ≡ s.place + n + 1
zero_read s n z p there h =
    let room : s.place + n < s.source.last = inside s n there in
    sym (ap (λ (o : Outcome ℕ). o.place) h) ∙ ap (λ (o : Outcome ℕ). o.place) (unsigned_room s.source (s.place + n) room)

pub zero_there : {A : Type 0} (s : Position) (n p : ℕ) (e : Error) → n < length (bytes_left s) → unsigned w8 s.source (s.place + n) ≡ record { value = Err e; place = p } → A
zero_there s n p e there h =
    let room : s.place + n < s.source.last = inside s n there in
    let value : Err e ≡ Ok _ = sym (ap (λ (o : Outcome ℕ). o.value) h) ∙ ap (λ (o : Outcome ℕ). o.value) (unsigned_room s.source (s.place + n) room) in
    absurd (cc)
