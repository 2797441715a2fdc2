-- An unsigned LEB128 number, byte by byte.
use Rattle.std.proofs.Common.{◌≡◌, ◌≤◌, ◌<◌, ◌+◌, ◌-◌, ◌*◌, ◌^◌, ◌%◌, ℕ, zero, suc, Bool, true, false, List, [], ◌∷◌, length, take, drop, get_or, Ok, Err, cond, refl, sym, ap, ◌∙◌, arith, add-zero, drop-cons, ⊎_elim, Result, subst}
use Rattle.std.specs.Prelude.{nat_lt, nat_le, slice_index, slice_range, if◌then◌else◌}
use Rattle.std.specs.List.{prefix_len, slice_get}
use Rattle.std.proofs.lemmas.Bool.{cases_lt}
use Rattle.std.proofs.Math.Nat.{pow-le-pow_right, pow-suc, mul-le-mul_right}
use Rattle.cfi_read_core.specs.declared.error.Error.{Error}
use Rattle.cfi_read_core.specs.declared.error.Error.TheVariants.{BadUnsignedLeb128}
use Rattle.cfi_read_core.specs.ReadFunctions.{Read, Source, Position, Outcome, unexpected_eof, rest, carry_on, refuse_if, refuse, give, ◌>>◌}
use Rattle.std.specs.Int.{w8}
use Rattle.cfi_read_core.specs.Numbers.{unsigned, number_of, leb128_sum, continuation_count, leb128_bytes, is_bad_byte, unsigned_leb128}
use Rattle.cfi_read_core.specs.ReaderCalls.{IsSound, Reads, bytes_left, one_back}
use borrow.Author.Tests.{le-leb, lt-leb, lt-ltb, le-ltb}

abbrev pub goes_on : ℕ → Bool
goes_on b = nat_le 128 b

-- what is given where n bytes go on: bs are they and the last one, which may be the tenth only if it is small
abbrev given : Bool → Bool → ℕ → ℕ → ℕ → Outcome ℕ
given true true n number place = record { value = Err BadUnsignedLeb128; place = place + n + 1 }
given true false n number place = record { value = Ok number; place = place + n + 1 }
given false large n number place = record { value = Err (unexpected_eof (place + n)); place = place + n }

-- What is left of a number gives, where m bytes at most may still go on, the next byte counts w, and those before
-- it count v.
abbrev pub left_gives : ℕ → ℕ → ℕ → List ℕ → ℕ → Outcome ℕ
left_gives m w v left place =
    let n = prefix_len goes_on (take m left) in
    let bs = take (n + 1) left in
    given (nat_lt n (length left)) (nat_lt 1 (slice_index bs m)) n (v + w * leb128_sum bs) place

pub nothing_left : (m w v place : ℕ) → left_gives m w v [] place ≡ record { value = Err (unexpected_eof place); place = place }
nothing_left zero w v place = ap (λ (p : ℕ). let o : Outcome ℕ = record { value = Err (unexpected_eof p); place = p } in o) (add-zero place)
nothing_left (suc m) w v place = ap (λ (p : ℕ). let o : Outcome ℕ = record { value = Err (unexpected_eof p); place = p } in o) (add-zero place)

pub same_test : (a b : ℕ) → nat_lt (suc a) (suc b) ≡ nat_lt a b
same_test a b =
    ⊎_elim
    (λ less. lt-ltb (suc a) (suc b) (omega arith) ∙ sym (lt-ltb a b less))
    (λ more. le-ltb (suc a) (suc b) (omega arith) ∙ sym (le-ltb a b more))
    (cases_lt a b)

shifted : (t large : Bool) (n number place : ℕ) → given t large (suc n) number place ≡ given t large n number (place + 1)
shifted true true n number place = ap (λ (p : ℕ). let o : Outcome ℕ = record { value = Err BadUnsignedLeb128; place = p } in o) (omega arith)
shifted true false n number place = ap (λ (p : ℕ). let o : Outcome ℕ = record { value = Ok number; place = p } in o) (omega arith)
shifted false large n number place = ap (λ (p : ℕ). let o : Outcome ℕ = record { value = Err (unexpected_eof p); place = p } in o) (omega arith)

abbrev gives_at : ℕ → ℕ → ℕ → ℕ → List ℕ → ℕ → Outcome ℕ
gives_at n m w v left place = given (nat_lt n (length left)) (nat_lt 1 (slice_index (take (n + 1) left) m)) n (v + w * leb128_sum (take (n + 1) left)) place

further_at : (n m w v b place : ℕ) (bs : List ℕ) → gives_at (suc n) (suc m) w v (b ∷ bs) place ≡ gives_at n m (w * 128) (v + w * (b % 128)) bs (place + 1)
further_at n m w v b place bs =
    let over : suc n + 1 ≡ suc (n + 1) = omega arith in
    let sum = leb128_sum (take (n + 1) bs) in
    let number : v + w * (b % 128 + 128 * sum) ≡ v + w * (b % 128) + w * 128 * sum = omega arith in
    let large = nat_lt 1 (slice_index (take (n + 1) bs) m) in
    ap (λ (k : ℕ). given (nat_lt (suc n) (suc (length bs))) (nat_lt 1 (slice_index (take k (b ∷ bs)) (suc m))) (suc n) (v + w * leb128_sum (take k (b ∷ bs))) place) over
    ∙ ap (λ (t : Bool). given t large (suc n) (v + w * (b % 128 + 128 * sum)) place) (same_test n (length bs))
    ∙ ap (λ (x : ℕ). given (nat_lt n (length bs)) large (suc n) x place) number
    ∙ shifted (nat_lt n (length bs)) large n (v + w * (b % 128) + w * 128 * sum) place

pub goes_further : (m w v b place : ℕ) (bs : List ℕ) → 128 ≤ b → left_gives (suc m) w v (b ∷ bs) place ≡ left_gives m (w * 128) (v + w * (b % 128)) bs (place + 1)
goes_further m w v b place bs h =
    let n = prefix_len goes_on (take m bs) in
    let longer : 1 + n ≡ suc n = omega arith in
    ap (λ (t : Bool). gives_at (cond t (1 + n) 0) (suc m) w v (b ∷ bs) place) (le-leb 128 b h)
    ∙ ap (λ (k : ℕ). gives_at k (suc m) w v (b ∷ bs) place) longer
    ∙ further_at n m w v b place bs

last_at : (large : Bool) (m w v b place : ℕ) (bs : List ℕ) → given (nat_lt 0 (suc (length bs))) large 0 (v + w * (b % 128 + 0)) place ≡ given true large 0 (v + w * (b % 128)) place
last_at large m w v b place bs =
    let some : nat_lt 0 (suc (length bs)) ≡ true = lt-ltb _ _ (omega arith) in
    let number : v + w * (b % 128 + 0) ≡ v + w * (b % 128) = ap (λ (x : ℕ). v + w * x) (omega arith) in
    rw (some, number) refl

ok_at : (w v b place : ℕ) → b < 128 → given true false 0 (v + w * (b % 128)) place ≡ record { value = Ok (v + w * b); place = place + 1 }
ok_at w v b place h =
    let low : b % 128 ≡ b = omega arith in
    let next : place + 0 + 1 ≡ place + 1 = omega arith in
    rw (low, next) refl

pub ends_here : (m w v b place : ℕ) (bs : List ℕ) → b < 128 → left_gives (suc m) w v (b ∷ bs) place ≡ record { value = Ok (v + w * b); place = place + 1 }
ends_here m w v b place bs h =
    ap (λ (t : Bool). gives_at (cond t (1 + prefix_len goes_on (take m bs)) 0) (suc m) w v (b ∷ bs) place) (lt-leb 128 b h)
    ∙ (last_at false m w v b place bs ∙ ok_at w v b place h)

pub tenth_ends : (w v b place : ℕ) (bs : List ℕ) → b ≤ 1 → left_gives 0 w v (b ∷ bs) place ≡ record { value = Ok (v + w * b); place = place + 1 }
tenth_ends w v b place bs h =
    last_at (nat_lt 1 b) 0 w v b place bs
    ∙ (ap (λ (large : Bool). given true large 0 (v + w * (b % 128)) place) (le-ltb 1 b h) ∙ ok_at w v b place (omega arith))

pub tenth_too_large : (w v b place : ℕ) (bs : List ℕ) → 1 < b → left_gives 0 w v (b ∷ bs) place ≡ record { value = Err BadUnsignedLeb128; place = place + 1 }
tenth_too_large w v b place bs h =
    let next : place + 0 + 1 ≡ place + 1 = omega arith in
    last_at (nat_lt 1 b) 0 w v b place bs
    ∙ (ap (λ (large : Bool). given true large 0 (v + w * (b % 128)) place) (lt-ltb 1 b h) ∙ (rw next refl))

-- a byte that isn't there counts as 0, which is no bad one
pub bad_byte_at : (is_bad : ℕ → Bool) → is_bad 0 ≡ false → (bs : List ℕ) (i : ℕ) → is_bad_byte is_bad (slice_get bs i) ≡ is_bad (slice_index bs i)
bad_byte_at is_bad zero_good [] i = sym zero_good
bad_byte_at is_bad zero_good (b ∷ bs) zero = refl
bad_byte_at is_bad zero_good (b ∷ bs) (suc i) = bad_byte_at is_bad zero_good bs i

abbrev too_large : List ℕ → Bool
too_large bs = is_bad_byte (λ tenth. nat_lt 1 tenth) (slice_get bs 9)

abbrev finish : List ℕ → Read ℕ
finish bs = refuse_if (too_large bs) BadUnsignedLeb128 >> give (leb128_sum bs)

finished : (source : Source) (place : ℕ) (bs : List ℕ) (large : Bool) → carry_on (λ _. give (leb128_sum bs)) source ((if large then refuse BadUnsignedLeb128 else give large) source place).value ((if large then refuse BadUnsignedLeb128 else give large) source place).place ≡
    (let o : Outcome ℕ = record { value = if large then Err BadUnsignedLeb128 else Ok (0 + 1 * leb128_sum bs); place = place } in o)
finished source place bs true = refl
finished source place bs false = ap (λ (x : ℕ). let o : Outcome ℕ = record { value = Ok x; place = place } in o) (omega arith)

chosen : (t large : Bool) (n number place : ℕ) → given t large n number place ≡
    (if t then (let o : Outcome ℕ = record { value = if large then Err BadUnsignedLeb128 else Ok number; place = place + n + 1 } in o) else record { value = Err (unexpected_eof (place + n)); place = place + n })
chosen true true n number place = refl
chosen true false n number place = refl
chosen false large n number place = refl

by_test : (source : Source) (place n : ℕ) (bs : List ℕ) (t : Bool) →
    let o : Outcome (List ℕ) = if t then record { value = Ok bs; place = place + n + 1 } else record { value = Err (unexpected_eof (place + n)); place = place + n } in
    carry_on finish source o.value o.place ≡ given t (nat_lt 1 (slice_index bs 9)) n (0 + 1 * leb128_sum bs) place
by_test source place n bs true =
    finished source (place + n + 1) bs (too_large bs)
    ∙ sym (chosen true (too_large bs) n (0 + 1 * leb128_sum bs) place)
    ∙ ap (λ (large : Bool). given true large n (0 + 1 * leb128_sum bs) place) (bad_byte_at (λ tenth. nat_lt 1 tenth) refl bs 9)
by_test source place n bs false = refl

pub whole_number : (source : Source) (place : ℕ) → unsigned_leb128 source place ≡ left_gives 9 1 0 (rest source place) place
unfolding unsigned_leb128 leb128_bytes
whole_number source place =
    let left = rest source place in
    let n = continuation_count left in
    by_test source place n (take (n + 1) left) (nat_lt n (length left))

-- ---- one byte

pub unsigned_room : (source : Source) (place : ℕ) → place < source.last →
    unsigned w8 source place ≡ record { value = Ok (number_of w8 source.big_endian (slice_range source.whole place (place + 1))); place = place + 1 }
unfolding unsigned
unsigned_room source place h =
    let room : nat_le 1 (source.last - place) ≡ true = le-leb _ _ (omega arith) in
    rw room refl

pub unsigned_ended : (source : Source) (place : ℕ) → source.last ≤ place → unsigned w8 source place ≡ record { value = Err (unexpected_eof place); place = place }
unfolding unsigned
unsigned_ended source place h =
    let none : nat_le 1 (source.last - place) ≡ false = lt-leb _ _ (omega arith) in
    rw none refl

one_byte : (big_endian : Bool) (b : ℕ) (bs : List ℕ) → number_of w8 big_endian (b ∷ bs) ≡ b
one_byte true b bs = refl
one_byte false b bs = refl

first_byte : (source : Source) (place : ℕ) → place < length source.whole → slice_range source.whole place (place + 1) ≡ get_or source.whole place 0 ∷ []
first_byte source place h =
    let one : place + 1 - place ≡ 1 = omega arith in
    ap (λ (n : ℕ). take n (drop place source.whole)) one ∙ ap (take 1) (drop-cons source.whole place 0 h)

rest_cons : (source : Source) (place : ℕ) → place < source.last → source.last ≤ length source.whole → rest source place ≡ get_or source.whole place 0 ∷ rest source (place + 1)
rest_cons source place h inside =
    let inside' : place < length source.whole = omega arith in
    let more : source.last - place ≡ suc (source.last - (place + 1)) = omega arith in
    let next : place + 1 ≡ suc place = omega arith in
    ap (λ (n : ℕ). take n (drop place source.whole)) more
    ∙ ap (take (suc (source.last - (place + 1)))) (drop-cons source.whole place 0 inside')
    ∙ ap (λ (i : ℕ). get_or source.whole place 0 ∷ take (source.last - (place + 1)) (drop i source.whole)) (sym next)

-- a byte that is read is the first of what is left
pub byte_there : (source : Source) (place b : ℕ) → source.last ≤ length source.whole → (unsigned w8 source place).value ≡ Ok b →
    (rest source place ≡ b ∷ rest source (place + 1)) × ((unsigned w8 source place).place ≡ place + 1)
byte_there source place b inside e =
    ⊎_elim
    (λ less.
    let read = unsigned_room source place less in
    let inside' : place < length source.whole = omega arith in
    let is : get_or source.whole place 0 ≡ b =
    let number : number_of w8 source.big_endian (slice_range source.whole place (place + 1)) ≡ get_or source.whole place 0 = ap (number_of w8 source.big_endian) (first_byte source place inside') ∙ one_byte source.big_endian _ [] in
    let value : (unsigned w8 source place).value ≡ Ok (number_of w8 source.big_endian (slice_range source.whole place (place + 1))) = ap (λ (o : Outcome ℕ). o.value) read in cc in
    (rest_cons source place less inside ∙ ap (λ (x : ℕ). x ∷ rest source (place + 1)) is, ap (λ (o : Outcome ℕ). o.place) read))
    (λ more. let value : (unsigned w8 source place).value ≡ Err (unexpected_eof place) = ap (λ (o : Outcome ℕ). o.value) (unsigned_ended source place more) in absurd (cc))
    (cases_lt place source.last)

rest_nil : (source : Source) (place : ℕ) → source.last ≤ place → rest source place ≡ []
rest_nil source place h = let none : source.last - place ≡ 0 = omega arith in ap (λ (n : ℕ). take n (drop place source.whole)) none

-- where none is read nothing is left
pub no_byte_there : (source : Source) (place : ℕ) (e : Error) → (unsigned w8 source place).value ≡ Err e →
    (rest source place ≡ []) × (unexpected_eof place ≡ e) × ((unsigned w8 source place).place ≡ place)
no_byte_there source place e is =
    ⊎_elim
    (λ less. let value : (unsigned w8 source place).value ≡ Ok _ = ap (λ (o : Outcome ℕ). o.value) (unsigned_room source place less) in absurd (cc))
    (λ more.
    let read = unsigned_ended source place more in
    let value : (unsigned w8 source place).value ≡ Err (unexpected_eof place) = ap (λ (o : Outcome ℕ). o.value) read in
    (rest_nil source place more, cc, ap (λ (o : Outcome ℕ). o.place) read))
    (cases_lt place source.last)

-- ---- the turns of the loop: i bytes are read, and count v; whole is what the number gives

module _ (source : Source) (inside : source.last ≤ length source.whole) (place i w v : ℕ) (whole : Outcome ℕ)
    (number : left_gives (9 - i) w v (rest source place) place ≡ whole) where
  pub turn_ended : (e : Error) → (unsigned w8 source place).value ≡ Err e → whole ≡ record { value = Err e; place = place }
  turn_ended e is =
      let there = no_byte_there source place e is in
      sym number ∙ ap (λ (left : List ℕ). left_gives (9 - i) w v left place) there.0
      ∙ (nothing_left (9 - i) w v place ∙ ap (λ (r : Error). let o : Outcome ℕ = record { value = Err r; place = place } in o) there.1)

  pub turn_too_large : (b : ℕ) → (unsigned w8 source place).value ≡ Ok b → i ≡ 9 → 1 < b → whole ≡ record { value = Err BadUnsignedLeb128; place = place + 1 }
  turn_too_large b is tenth large =
      let there = byte_there source place b inside is in
      let none : 9 - i ≡ 0 = omega arith in
      sym number ∙ ap (λ (left : List ℕ). left_gives (9 - i) w v left place) there.0
      ∙ ap (λ (m : ℕ). left_gives m w v (b ∷ rest source (place + 1)) place) none
      ∙ tenth_too_large w v b place (rest source (place + 1)) large

  last_turn : (m b : ℕ) → 9 - i ≡ m → rest source place ≡ b ∷ rest source (place + 1) → b < 128 → (m ≡ 0 → b ≤ 1) → whole ≡ record { value = Ok (v + w * b); place = place + 1 }
  last_turn zero b left there small tenth =
      sym number ∙ ap (λ (l : List ℕ). left_gives (9 - i) w v l place) there
      ∙ ap (λ (m : ℕ). left_gives m w v (b ∷ rest source (place + 1)) place) left
      ∙ tenth_ends w v b place (rest source (place + 1)) (tenth refl)
  last_turn (suc m) b left there small tenth =
      sym number ∙ ap (λ (l : List ℕ). left_gives (9 - i) w v l place) there
      ∙ ap (λ (m : ℕ). left_gives m w v (b ∷ rest source (place + 1)) place) left
      ∙ ends_here m w v b place (rest source (place + 1)) small

  pub turn_last : (b : ℕ) → (unsigned w8 source place).value ≡ Ok b → b < 128 → i ≤ 9 → (i ≡ 9 → b ≤ 1) → whole ≡ record { value = Ok (v + w * b); place = place + 1 }
  turn_last b is small few tenth = last_turn (9 - i) b refl (byte_there source place b inside is).0 small (λ z. tenth (omega arith))

  pub turn_further : (b : ℕ) → (unsigned w8 source place).value ≡ Ok b → 128 ≤ b → i < 9 →
      left_gives (9 - (i + 1)) (w * 128) (v + w * (b % 128)) (rest source (place + 1)) (place + 1) ≡ whole
  turn_further b is more few =
      let there = byte_there source place b inside is in
      let left : 9 - i ≡ suc (9 - (i + 1)) = omega arith in
      sym (goes_further (9 - (i + 1)) w v b place (rest source (place + 1)) more)
      ∙ (ap (λ (m : ℕ). left_gives m w v (b ∷ rest source (place + 1)) place) (sym left)
      ∙ (ap (λ (l : List ℕ). left_gives (9 - i) w v l place) (sym there.0) ∙ number))

-- the first byte was read, and goes on
pub after_first : (source : Source) → source.last ≤ length source.whole → (place b : ℕ) → unsigned w8 source (place - 1) ≡ record { value = Ok b; place = place } → 128 ≤ b →
    left_gives 8 128 (b % 128) (rest source place) place ≡ unsigned_leb128 source (place - 1)
after_first source inside place b read more =
    let is = ap (λ (o : Outcome ℕ). o.value) read in
    let next : place ≡ place - 1 + 1 = sym (ap (λ (o : Outcome ℕ). o.place) read) ∙ (byte_there source (place - 1) b inside is).1 in
    let number : b % 128 ≡ 0 + 1 * (b % 128) = omega arith in
    ap (λ (v : ℕ). left_gives 8 128 v (rest source place) place) number
    ∙ ap (λ (p : ℕ). left_gives 8 128 (0 + 1 * (b % 128)) (rest source p) p) next
    ∙ turn_further source inside (place - 1) 0 1 0 _ (sym (whole_number source (place - 1))) b is more (omega arith)

-- one back from where a byte was read to is where it was read
pub one_back_from : (old new : Position) (b : ℕ) → old.source.last ≤ length old.source.whole → Reads (λ x. x) (unsigned w8) old (Ok b) new → one_back new ≡ old
one_back_from old new b inside read =
    let there = byte_there old.source old.place b inside (ap (λ (o : Outcome ℕ). o.value) read.0) in
    let next : new.place ≡ old.place + 1 = sym (ap (λ (o : Outcome ℕ). o.place) read.0) ∙ there.1 in
    let back : new.place - 1 ≡ old.place = omega arith in
    ap (λ (s : Source). let p : Position = record { source = s; place = new.place - 1 } in p) read.1
    ∙ ap (λ (n : ℕ). let p : Position = record { source = old.source; place = n } in p) back

-- ---- sums that fit

tenth_power : 128 ^ 9 ≡ 9223372036854775808
tenth_power = refl

-- a byte that may be the last adds no more than 64 bits hold
room : (i w v b : ℕ) → i ≤ 9 → w ≡ 128 ^ i → v < w → (i ≡ 9 → b ≤ 1) → v + b % 128 * w < 18446744073709551616
room i w v b few weighs bound tenth =
    ⊎_elim
    (λ (before : i < 9).
    let grows : 128 ^ suc i ≤ 128 ^ 9 = pow-le-pow_right {n = 128} (omega arith) {i = suc i} {j = 9} (omega arith) in
    let next : 128 ^ suc i ≡ 128 ^ i * 128 = pow-suc 128 i in
    let low : b % 128 ≤ 127 = omega arith in
    let product : b % 128 * w ≤ 127 * w = mul-le-mul_right w low in
    omega (arith, tenth_power))
    (λ (last : 9 ≤ i).
    let here : i ≡ 9 = omega arith in
    let small : b ≤ 1 = tenth here in
    let same : b % 128 ≡ b = omega arith in
    let weight : w ≡ 9223372036854775808 = weighs ∙ (ap (λ (n : ℕ). 128 ^ n) here ∙ tenth_power) in
    let product : b % 128 * w ≤ 1 * w = mul-le-mul_right w (omega arith) in
    omega arith)
    (cases_lt i 9)

pub sum_fits : (i w v b low : ℕ) → i ≤ 9 → w ≡ 128 ^ i → v < w → (i ≡ 9 → b ≤ 1) → low ≡ b % 128 → v + low * w < 18446744073709551616
sum_fits i w v b low few weighs bound tenth lower = rw lower (room i w v b few weighs bound tenth)

pub product_fits : (i w v b low : ℕ) → i ≤ 9 → w ≡ 128 ^ i → v < w → (i ≡ 9 → b ≤ 1) → low ≡ b % 128 → low * w < 18446744073709551616
product_fits i w v b low few weighs bound tenth lower = let sum = sum_fits i w v b low few weighs bound tenth lower in omega arith

pub before_tenth : (i b : ℕ) → i ≤ 9 → (i ≡ 9 → b ≤ 1) → 128 ≤ b → i < 9
before_tenth i b few tenth more =
    ⊎_elim
    (λ less. less)
    (λ (last : 9 ≤ i). let here : i ≡ 9 = omega arith in let small = tenth here in absurd (omega arith))
    (cases_lt i 9)

pub weight_grows : (i w : ℕ) → i < 9 → w ≡ 128 ^ i → (w * 128 ≡ 128 ^ (i + 1)) × (w * 128 < 18446744073709551616)
weight_grows i w few weighs =
    let grows : 128 ^ suc i ≤ 128 ^ 9 = pow-le-pow_right {n = 128} (omega arith) {i = suc i} {j = 9} (omega arith) in
    let next : 128 ^ suc i ≡ 128 ^ i * 128 = pow-suc 128 i in
    let same : i + 1 ≡ suc i = omega arith in
    let sum : w * 128 ≡ 128 ^ suc i = ap (λ (n : ℕ). n * 128) weighs ∙ sym next in
    (sum ∙ ap (λ (n : ℕ). 128 ^ n) (sym same), omega (arith, tenth_power))

-- what counts so far is below what the next byte counts
pub bounded : (v w b low : ℕ) → v < w → low ≡ b % 128 → v + low * w < w * 128
bounded v w b low h lower =
    let few : low ≤ 127 = omega arith in
    let product : low * w ≤ 127 * w = mul-le-mul_right w few in
    omega arith

pub one_more : (i : ℕ) → i < 9 → i + 1 ≤ 9
one_more i h = omega arith

pub nine_turns : (i : ℕ) → i ≤ 9 → 9 ≤ i → i ≡ 9
nine_turns i h k = omega arith

-- ---- the same of readers: one began at the number, and stands here in it

abbrev of_byte : Outcome ℕ → Result ℕ Error
of_byte o = o.value

abbrev place_of : Outcome ℕ → ℕ
place_of o = o.place

abbrev refused : Error → ℕ → Outcome ℕ
refused e p = record { value = Err e; place = p }

abbrev read_as : ℕ → ℕ → Outcome ℕ
read_as n p = record { value = Ok n; place = p }

module _ (began here : Position) (sound : IsSound here) (same : here.source ≡ began.source) (i w v : ℕ)
    (number : left_gives (9 - i) w v (bytes_left here) here.place ≡ unsigned_leb128 began.source began.place) where
  pub reads_refused : (e : Error) (after : Position) → Reads (λ x. x) (unsigned w8) here (Err e) after → Reads (λ x. x) unsigned_leb128 began (Err e) after
  reads_refused e after byte =
      let is = ap of_byte byte.0 in
      let stays = sym (no_byte_there here.source here.place e is).2 ∙ ap place_of byte.0 in
      (turn_ended here.source sound.within here.place i w v _ number e is ∙ ap (refused e) stays, byte.1 ∙ same)

  pub reads_too_large : (b : ℕ) (after : Position) → Reads (λ x. x) (unsigned w8) here (Ok b) after → i ≡ 9 → 1 < b → Reads (λ x. x) unsigned_leb128 began (Err BadUnsignedLeb128) after
  reads_too_large b after byte nine large =
      let is = ap of_byte byte.0 in
      let next = sym (byte_there here.source here.place b sound.within is).1 ∙ ap place_of byte.0 in
      (turn_too_large here.source sound.within here.place i w v _ number b is nine large ∙ ap (refused BadUnsignedLeb128) next, byte.1 ∙ same)

  pub reads_last : (b low : ℕ) (after : Position) → Reads (λ x. x) (unsigned w8) here (Ok b) after → b < 128 → i ≤ 9 → (i ≡ 9 → b ≤ 1) → low ≡ b % 128 → Reads (λ x. x) unsigned_leb128 began (Ok (v + low * w)) after
  reads_last b low after byte small few tenth lower =
      let is = ap of_byte byte.0 in
      let next = sym (byte_there here.source here.place b sound.within is).1 ∙ ap place_of byte.0 in
      let whole : b ≡ low = omega arith in
      let product : w * b ≡ b * w = omega arith in
      let sum = ap (λ (x : ℕ). v + x) (product ∙ ap (λ (n : ℕ). n * w) whole) in
      (turn_last here.source sound.within here.place i w v _ number b is small few tenth ∙ ap (λ (x : ℕ). read_as x (here.place + 1)) sum ∙ ap (read_as _) next, byte.1 ∙ same)

  pub reads_on : (b low : ℕ) (after : Position) → Reads (λ x. x) (unsigned w8) here (Ok b) after → 128 ≤ b → i < 9 → low ≡ b % 128 →
      left_gives (9 - (i + 1)) (w * 128) (v + low * w) (bytes_left after) after.place ≡ unsigned_leb128 began.source began.place
  reads_on b low after byte more few lower =
      let is = ap of_byte byte.0 in
      let next : after.place ≡ here.place + 1 = sym (ap place_of byte.0) ∙ (byte_there here.source here.place b sound.within is).1 in
      let further = turn_further here.source sound.within here.place i w v _ number b is more few in
      let product : b % 128 * w ≡ w * (b % 128) = omega arith in
      let sum = ap (λ (x : ℕ). v + x) (ap (λ (n : ℕ). n * w) lower ∙ product) in
      let m = 9 - (i + 1) in
      ap (λ (s : Source). left_gives m (w * 128) (v + low * w) (rest s after.place) after.place) byte.1
      ∙ ap (λ (p : ℕ). left_gives m (w * 128) (v + low * w) (rest here.source p) p) next
      ∙ ap (λ (x : ℕ). left_gives m (w * 128) x (rest here.source (here.place + 1)) (here.place + 1)) sum
      ∙ further

-- a number of one byte
pub reads_one : (began : Position) → IsSound began → (b value : ℕ) (after : Position) → Reads (λ x. x) (unsigned w8) began (Ok b) after → b < 128 → value ≡ b → Reads (λ x. x) unsigned_leb128 began (Ok value) after
reads_one began sound b value after byte small same =
    let last = reads_last began began sound refl 0 1 0 (sym (whole_number began.source began.place)) b b after byte small (omega arith) (λ tenth. omega (arith, tenth)) (omega arith) in
    let number : 0 + b * 1 ≡ value = omega arith in
    subst (λ (x : ℕ). Reads (λ x. x) unsigned_leb128 began (Ok x) after) number last

-- the first byte of none
pub reads_none : (began : Position) → IsSound began → (e : Error) (after : Position) → Reads (λ x. x) (unsigned w8) began (Err e) after → Reads (λ x. x) unsigned_leb128 began (Err e) after
reads_none began sound e after byte = reads_refused began began sound refl 0 1 0 (sym (whole_number began.source began.place)) e after byte
