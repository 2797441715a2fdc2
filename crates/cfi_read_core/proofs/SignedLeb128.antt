-- A signed LEB128 number, byte by byte.
use Rattle.std.proofs.Common.{◌≡◌, ◌≤◌, ◌<◌, ◌+◌, ◌-◌, ◌*◌, ◌^◌, ◌%◌, ℕ, zero, suc, ℤ, pos, negsuc, Bool, true, false, not, ◌||◌, List, [], ◌∷◌, length, take, Ok, Err, cond, refl, sym, ap, ◌∙◌, arith, ⊎_elim, ◌⊎◌, ne_eqb, subst, Result}
use Rattle.std.specs.Prelude.{◌-ℤ◌, nat_lt, nat_le, slice_index, ◌==◌, if◌then◌else◌}
use Rattle.std.specs.Int.{w8, w64, cast_signed, cast_unsigned}
use Rattle.std.specs.List.{prefix_len, slice_get}
use Rattle.std.proofs.lemmas.Bool.{lt-ltb, le-ltb}
use Rattle.std.proofs.Math.Nat.{pow-suc, pow-le-pow_right, mul-le-mul_right}
use borrow.Author.Tests.{le-leb, lt-leb}
use Rattle.cfi_read_core.specs.declared.error.Error.{Error}
use Rattle.cfi_read_core.specs.declared.error.Error.TheVariants.{BadSignedLeb128}
use Rattle.cfi_read_core.specs.ReadFunctions.{Read, Source, Position, Outcome, unexpected_eof, rest, carry_on, refuse_if, refuse, give, ◌>>◌}
use Rattle.cfi_read_core.specs.Numbers.{unsigned, leb128_sum, continuation_count, leb128_bytes, is_bad_byte, is_below_zero, number_by, signed_leb128_sum, signed_leb128}
use Rattle.cfi_read_core.specs.ReaderCalls.{IsSound, Reads, bytes_left}
use Rattle.cfi_read_core.proofs.Leb128.{bad_byte_at, goes_on, same_test, byte_there, no_byte_there}

abbrev pub is_bad : ℕ → Bool
is_bad tenth = not (tenth == 0 || tenth == 0x7f)

-- what is given where n bytes go on
abbrev given : Bool → Bool → Bool → ℕ → ℕ → ℕ → ℕ → Outcome ℤ
given true true below n number power place = record { value = Err BadSignedLeb128; place = place + n + 1 }
given true false below n number power place = record { value = Ok (number_by below number power); place = place + n + 1 }
given false bad below n number power place = record { value = Err (unexpected_eof (place + n)); place = place + n }

abbrev gives_at : ℕ → ℕ → ℕ → ℕ → List ℕ → ℕ → Outcome ℤ
gives_at n m w v left place =
    let bs = take (n + 1) left in
    given (nat_lt n (length left)) (is_bad (slice_index bs m)) (is_below_zero bs) n (v + w * leb128_sum bs) (w * 128 ^ length bs) place

-- What is left of a number gives, where m bytes at most may still go on, the next byte counts w, and those before
-- it count v.
abbrev pub left_gives : ℕ → ℕ → ℕ → List ℕ → ℕ → Outcome ℤ
left_gives m w v left place = gives_at (prefix_len goes_on (take m left)) m w v left place

pub nothing_left : (m w v place : ℕ) → left_gives m w v [] place ≡ record { value = Err (unexpected_eof place); place = place }
nothing_left zero w v place = let same : place + 0 ≡ place = omega arith in ap (λ (p : ℕ). let o : Outcome ℤ = record { value = Err (unexpected_eof p); place = p } in o) same
nothing_left (suc m) w v place = let same : place + 0 ≡ place = omega arith in ap (λ (p : ℕ). let o : Outcome ℤ = record { value = Err (unexpected_eof p); place = p } in o) same

shifted : (t bad below : Bool) (n number power place : ℕ) → given t bad below (suc n) number power place ≡ given t bad below n number power (place + 1)
shifted true true below n number power place = ap (λ (p : ℕ). let o : Outcome ℤ = record { value = Err BadSignedLeb128; place = p } in o) (omega arith)
shifted true false below n number power place = ap (λ (p : ℕ). let o : Outcome ℤ = record { value = Ok (number_by below number power); place = p } in o) (omega arith)
shifted false bad below n number power place = ap (λ (p : ℕ). let o : Outcome ℤ = record { value = Err (unexpected_eof p); place = p } in o) (omega arith)

-- the sign is the last byte's
same_sign : (b c : ℕ) (ds : List ℕ) → is_below_zero (b ∷ c ∷ ds) ≡ is_below_zero (c ∷ ds)
same_sign b c ds =
    let outer : suc (suc (length ds)) - 1 ≡ suc (length ds) = omega arith in
    let inner : suc (length ds) - 1 ≡ length ds = omega arith in
    ap (λ (k : ℕ). nat_le 64 (slice_index (b ∷ c ∷ ds) k % 128)) outer ∙ sym (ap (λ (k : ℕ). nat_le 64 (slice_index (c ∷ ds) k % 128)) inner)

further_at : (n m w v b place : ℕ) (bs : List ℕ) → gives_at (suc n) (suc m) w v (b ∷ bs) place ≡ gives_at n m (w * 128) (v + w * (b % 128)) bs (place + 1)
further_at n m w v b place [] =
    let none : nat_lt (suc n) 1 ≡ false = le-ltb _ _ (omega arith) in
    let none' : nat_lt n 0 ≡ false = le-ltb _ _ (omega arith) in
    let bs = take (n + 1) [] in
    ap (λ (t : Bool). given t (is_bad (slice_index (take (suc n + 1) (b ∷ [])) (suc m))) (is_below_zero (take (suc n + 1) (b ∷ []))) (suc n) (v + w * leb128_sum (take (suc n + 1) (b ∷ []))) (w * 128 ^ length (take (suc n + 1) (b ∷ []))) place) none
    ∙ ap (λ (p : ℕ). let o : Outcome ℤ = record { value = Err (unexpected_eof p); place = p } in o) (let same : place + suc n ≡ place + 1 + n = omega arith in same)
    ∙ sym (ap (λ (t : Bool). given t (is_bad (slice_index bs m)) (is_below_zero bs) n (v + w * (b % 128) + w * 128 * leb128_sum bs) (w * 128 * 128 ^ length bs) (place + 1)) none')
further_at n m w v b place (c ∷ cs) =
    let bs = c ∷ take n cs in
    let over : suc n + 1 ≡ suc (suc n) = omega arith in
    let over' : n + 1 ≡ suc n = omega arith in
    let sum = leb128_sum bs in
    let number : v + w * (b % 128 + 128 * sum) ≡ v + w * (b % 128) + w * 128 * sum = omega arith in
    let power : w * 128 ^ suc (length bs) ≡ w * 128 * 128 ^ length bs = let next : 128 ^ suc (length bs) ≡ 128 ^ length bs * 128 = pow-suc 128 (length bs) in
    let moved : w * (128 ^ length bs * 128) ≡ w * 128 * 128 ^ length bs = grind arith in ap (λ (x : ℕ). w * x) next ∙ moved in
    let bad = is_bad (slice_index bs m) in
    let below = is_below_zero bs in
    ap (λ (k : ℕ). given (nat_lt (suc n) (suc (length (c ∷ cs)))) (is_bad (slice_index (take k (b ∷ c ∷ cs)) (suc m))) (is_below_zero (take k (b ∷ c ∷ cs))) (suc n) (v + w * leb128_sum (take k (b ∷ c ∷ cs))) (w * 128 ^ length (take k (b ∷ c ∷ cs))) place) over
    ∙ ap (λ (sign : Bool). given (nat_lt (suc n) (suc (length (c ∷ cs)))) bad sign (suc n) (v + w * (b % 128 + 128 * sum)) (w * 128 ^ suc (length bs)) place) (same_sign b c (take n cs))
    ∙ ap (λ (t : Bool). given t bad below (suc n) (v + w * (b % 128 + 128 * sum)) (w * 128 ^ suc (length bs)) place) (same_test n (length (c ∷ cs)))
    ∙ ap (λ (x : ℕ). given (nat_lt n (length (c ∷ cs))) bad below (suc n) x (w * 128 ^ suc (length bs)) place) number
    ∙ ap (λ (x : ℕ). given (nat_lt n (length (c ∷ cs))) bad below (suc n) (v + w * (b % 128) + w * 128 * sum) x place) power
    ∙ shifted (nat_lt n (length (c ∷ cs))) bad below n (v + w * (b % 128) + w * 128 * sum) (w * 128 * 128 ^ length bs) place
    ∙ sym (ap (λ (k : ℕ). given (nat_lt n (length (c ∷ cs))) (is_bad (slice_index (take k (c ∷ cs)) m)) (is_below_zero (take k (c ∷ cs))) n (v + w * (b % 128) + w * 128 * leb128_sum (take k (c ∷ cs))) (w * 128 * 128 ^ length (take k (c ∷ cs))) (place + 1)) over')

pub goes_further : (m w v b place : ℕ) (bs : List ℕ) → 128 ≤ b → left_gives (suc m) w v (b ∷ bs) place ≡ left_gives m (w * 128) (v + w * (b % 128)) bs (place + 1)
goes_further m w v b place bs h =
    let n = prefix_len goes_on (take m bs) in
    let longer : 1 + n ≡ suc n = omega arith in
    ap (λ (t : Bool). gives_at (cond t (1 + n) 0) (suc m) w v (b ∷ bs) place) (le-leb 128 b h)
    ∙ ap (λ (k : ℕ). gives_at k (suc m) w v (b ∷ bs) place) longer
    ∙ further_at n m w v b place bs

-- the last byte
last_at : (bad : Bool) (w v b place : ℕ) (bs : List ℕ) → given (nat_lt 0 (suc (length bs))) bad (is_below_zero (b ∷ [])) 0 (v + w * (b % 128 + 0)) (w * 128 ^ 1) place
    ≡ given true bad (nat_le 64 (b % 128)) 0 (v + w * (b % 128)) (w * 128) place
last_at bad w v b place bs =
    let some : nat_lt 0 (suc (length bs)) ≡ true = lt-ltb _ _ (omega arith) in
    let number : v + w * (b % 128 + 0) ≡ v + w * (b % 128) = ap (λ (x : ℕ). v + w * x) (omega arith) in
    rw (some, number) refl

ok_at : (below : Bool) (w v b place : ℕ) → nat_le 64 (b % 128) ≡ below → given true false (nat_le 64 (b % 128)) 0 (v + w * (b % 128)) (w * 128) place ≡ record { value = Ok (number_by below (v + w * (b % 128)) (w * 128)); place = place + 1 }
ok_at below w v b place h =
    let next : place + 0 + 1 ≡ place + 1 = omega arith in
    rw (h, next) refl

pub ends_here : (below : Bool) (m w v b place : ℕ) (bs : List ℕ) → b < 128 → nat_le 64 (b % 128) ≡ below → left_gives (suc m) w v (b ∷ bs) place ≡ record { value = Ok (number_by below (v + w * (b % 128)) (w * 128)); place = place + 1 }
ends_here below m w v b place bs h sign =
    ap (λ (t : Bool). gives_at (cond t (1 + prefix_len goes_on (take m bs)) 0) (suc m) w v (b ∷ bs) place) (lt-leb 128 b h)
    ∙ (last_at false w v b place bs ∙ ok_at below w v b place sign)

pub tenth_ends : (below : Bool) (w v b place : ℕ) (bs : List ℕ) → is_bad b ≡ false → nat_le 64 (b % 128) ≡ below → left_gives 0 w v (b ∷ bs) place ≡ record { value = Ok (number_by below (v + w * (b % 128)) (w * 128)); place = place + 1 }
tenth_ends below w v b place bs good sign =
    last_at (is_bad b) w v b place bs
    ∙ (ap (λ (bad : Bool). given true bad (nat_le 64 (b % 128)) 0 (v + w * (b % 128)) (w * 128) place) good ∙ ok_at below w v b place sign)

pub tenth_bad : (w v b place : ℕ) (bs : List ℕ) → is_bad b ≡ true → left_gives 0 w v (b ∷ bs) place ≡ record { value = Err BadSignedLeb128; place = place + 1 }
tenth_bad w v b place bs bad =
    let next : place + 0 + 1 ≡ place + 1 = omega arith in
    last_at (is_bad b) w v b place bs
    ∙ (ap (λ (t : Bool). given true t (nat_le 64 (b % 128)) 0 (v + w * (b % 128)) (w * 128) place) bad ∙ (rw next refl))

-- ---- the whole number

abbrev finish : List ℕ → Read ℤ
finish bs = refuse_if (is_bad_byte (λ tenth. is_bad tenth) (slice_get bs 9)) BadSignedLeb128 >> give (signed_leb128_sum bs)

summed : (below : Bool) (bs : List ℕ) → number_by below (leb128_sum bs) (128 ^ length bs) ≡ number_by below (0 + 1 * leb128_sum bs) (1 * 128 ^ length bs)
summed true bs =
    let number : leb128_sum bs ≡ 0 + 1 * leb128_sum bs = omega arith in
    let power : 128 ^ length bs ≡ 1 * 128 ^ length bs = omega arith in
    ap (λ (n : ℕ). pos n -ℤ pos (128 ^ length bs)) number ∙ ap (λ (p : ℕ). pos (0 + 1 * leb128_sum bs) -ℤ pos p) power
summed false bs = ap pos (omega arith)

finished : (source : Source) (place n : ℕ) (bs : List ℕ) (bad : Bool) →
    (let o : Outcome ℤ = carry_on (λ _. give (signed_leb128_sum bs)) source ((if bad then refuse BadSignedLeb128 else give bad) source (place + n + 1)).value ((if bad then refuse BadSignedLeb128 else give bad) source (place + n + 1)).place in o)
    ≡ given true bad (is_below_zero bs) n (0 + 1 * leb128_sum bs) (1 * 128 ^ length bs) place
finished source place n bs true = refl
finished source place n bs false = ap (λ (x : ℤ). let o : Outcome ℤ = record { value = Ok x; place = place + n + 1 } in o) (summed (is_below_zero bs) bs)

by_test : (source : Source) (place n : ℕ) (bs : List ℕ) (t : Bool) →
    let o : Outcome (List ℕ) = if t then record { value = Ok bs; place = place + n + 1 } else record { value = Err (unexpected_eof (place + n)); place = place + n } in
    carry_on finish source o.value o.place ≡ given t (is_bad (slice_index bs 9)) (is_below_zero bs) n (0 + 1 * leb128_sum bs) (1 * 128 ^ length bs) place
by_test source place n bs true =
    finished source place n bs (is_bad_byte (λ tenth. is_bad tenth) (slice_get bs 9))
    ∙ ap (λ (bad : Bool). given true bad (is_below_zero bs) n (0 + 1 * leb128_sum bs) (1 * 128 ^ length bs) place) (bad_byte_at (λ tenth. is_bad tenth) refl bs 9)
by_test source place n bs false = refl

pub whole_number : (source : Source) (place : ℕ) → signed_leb128 source place ≡ left_gives 9 1 0 (rest source place) place
unfolding signed_leb128 leb128_bytes
whole_number source place =
    let left = rest source place in
    let n = continuation_count left in
    by_test source place n (take (n + 1) left) (nat_lt n (length left))

-- ---- the turns of the loop: i bytes are read, and count v; whole is what the number gives

module _ (source : Source) (inside : source.last ≤ length source.whole) (place i w v : ℕ) (whole : Outcome ℤ)
    (number : left_gives (9 - i) w v (rest source place) place ≡ whole) where
  pub turn_ended : (e : Error) → (unsigned w8 source place).value ≡ Err e → whole ≡ record { value = Err e; place = place }
  turn_ended e is =
      let there = no_byte_there source place e is in
      sym number ∙ ap (λ (left : List ℕ). left_gives (9 - i) w v left place) there.0
      ∙ (nothing_left (9 - i) w v place ∙ ap (λ (r : Error). let o : Outcome ℤ = record { value = Err r; place = place } in o) there.1)

  pub turn_last : (below : Bool) (b : ℕ) → (unsigned w8 source place).value ≡ Ok b → b < 128 → i < 9 → nat_le 64 (b % 128) ≡ below →
      whole ≡ record { value = Ok (number_by below (v + w * (b % 128)) (w * 128)); place = place + 1 }
  turn_last below b is small few sign =
      let there = byte_there source place b inside is in
      let left : 9 - i ≡ suc (9 - (i + 1)) = omega arith in
      sym number ∙ ap (λ (l : List ℕ). left_gives (9 - i) w v l place) there.0
      ∙ ap (λ (m : ℕ). left_gives m w v (b ∷ rest source (place + 1)) place) left
      ∙ ends_here below (9 - (i + 1)) w v b place (rest source (place + 1)) small sign

  pub turn_further : (b : ℕ) → (unsigned w8 source place).value ≡ Ok b → 128 ≤ b → i < 9 →
      left_gives (9 - (i + 1)) (w * 128) (v + w * (b % 128)) (rest source (place + 1)) (place + 1) ≡ whole
  turn_further b is more few =
      let there = byte_there source place b inside is in
      let left : 9 - i ≡ suc (9 - (i + 1)) = omega arith in
      sym (goes_further (9 - (i + 1)) w v b place (rest source (place + 1)) more)
      ∙ (ap (λ (m : ℕ). left_gives m w v (b ∷ rest source (place + 1)) place) (sym left)
      ∙ (ap (λ (l : List ℕ). left_gives (9 - i) w v l place) (sym there.0) ∙ number))

  pub tenth_turn : (below : Bool) (b : ℕ) → (unsigned w8 source place).value ≡ Ok b → i ≡ 9 → is_bad b ≡ false → nat_le 64 (b % 128) ≡ below →
      whole ≡ record { value = Ok (number_by below (v + w * (b % 128)) (w * 128)); place = place + 1 }
  tenth_turn below b is tenth good sign =
      let there = byte_there source place b inside is in
      let none : 9 - i ≡ 0 = omega arith in
      sym number ∙ ap (λ (l : List ℕ). left_gives (9 - i) w v l place) there.0
      ∙ ap (λ (m : ℕ). left_gives m w v (b ∷ rest source (place + 1)) place) none
      ∙ tenth_ends below w v b place (rest source (place + 1)) good sign

  pub tenth_refused : (b : ℕ) → (unsigned w8 source place).value ≡ Ok b → i ≡ 9 → is_bad b ≡ true → whole ≡ record { value = Err BadSignedLeb128; place = place + 1 }
  tenth_refused b is tenth bad =
      let there = byte_there source place b inside is in
      let none : 9 - i ≡ 0 = omega arith in
      sym number ∙ ap (λ (l : List ℕ). left_gives (9 - i) w v l place) there.0
      ∙ ap (λ (m : ℕ). left_gives m w v (b ∷ rest source (place + 1)) place) none
      ∙ tenth_bad w v b place (rest source (place + 1)) bad

-- ---- the sign

minus : (a b : ℕ) → a < b → pos a -ℤ pos b ≡ negsuc (b - suc a)
minus a zero h = absurd (omega arith)
minus a (suc k) h = let less : nat_lt a (suc k) ≡ true = lt-ltb _ _ h in rw less refl

-- it fits 64 bits
pub signed_bits : (below : Bool) (v w : ℕ) (z : ℤ) → v < w → w ≤ 9223372036854775808 → z ≡ number_by below v w → cast_signed w64 (cast_unsigned w64 z) ≡ number_by below v w
signed_bits true v w z h top e =
    let high : nat_lt (18446744073709551616 - suc (w - suc v)) 9223372036854775808 ≡ false = le-ltb _ _ (omega arith) in
    let same : 18446744073709551616 - suc (18446744073709551616 - suc (w - suc v)) ≡ w - suc v = omega arith in
    let is = e ∙ minus v w h in
    rw (is, high, minus v w h) (ap negsuc same)
signed_bits false v w z h top e =
    let low : nat_lt v 9223372036854775808 ≡ true = lt-ltb _ _ (omega arith) in
    rw (e, low) refl

-- the tenth byte repeats the sign
pub tenth_of_plus : (v w : ℕ) → number_by false (v + w * (0 % 128)) (w * 128) ≡ number_by false v w
tenth_of_plus v w = ap pos (omega arith)

pub tenth_of_minus : (v w : ℕ) → v < w → number_by true (v + w * (127 % 128)) (w * 128) ≡ number_by true v w
tenth_of_minus v w h =
    let less : v + w * 127 < w * 128 = omega arith in
    let same : w * 128 - suc (v + w * 127) ≡ w - suc v = omega arith in
    minus (v + w * 127) (w * 128) less ∙ ap negsuc same ∙ sym (minus v w h)

pub bad_tenth : (b : ℕ) → ¬ (b ≡ 0) → ¬ (b ≡ 127) → is_bad b ≡ true
bad_tenth b h k =
    let zero' : (b == 0) ≡ false = ne_eqb b 0 h in
    let ones : (b == 0x7f) ≡ false = ne_eqb b 127 k in
    rw (zero', ones) refl

-- sums that fit: a byte at a place below the tenth
room : (i w v b : ℕ) → i < 9 → w ≡ 128 ^ i → v < w → (v + b % 128 * w < w * 128) × (w * 128 ≤ 9223372036854775808)
room i w v b few weighs bound =
    let low : b % 128 ≤ 127 = omega arith in
    let product : b % 128 * w ≤ 127 * w = mul-le-mul_right w low in
    let grows : 128 ^ suc i ≤ 128 ^ 9 = pow-le-pow_right {n = 128} (omega arith) {i = suc i} {j = 9} (omega arith) in
    let next : 128 ^ suc i ≡ 128 ^ i * 128 = pow-suc 128 i in
    let top : 128 ^ 9 ≡ 9223372036854775808 = refl in
    let same : w * 128 ≡ 128 ^ i * 128 = ap (λ (n : ℕ). n * 128) weighs in
    (omega arith, omega arith)

pub sum_fits : (i w v b low : ℕ) → i < 9 → w ≡ 128 ^ i → v < w → low ≡ b % 128 → v + low * w < 18446744073709551616
sum_fits i w v b low few weighs bound lower = let fits = room i w v b few weighs bound in rw lower (omega (arith, fits.0, fits.1))

pub product_fits : (i w v b low : ℕ) → i < 9 → w ≡ 128 ^ i → v < w → low ≡ b % 128 → low * w < 18446744073709551616
product_fits i w v b low few weighs bound lower = let sum = sum_fits i w v b low few weighs bound lower in omega arith

pub weight_room : (i w v b : ℕ) → i < 9 → w ≡ 128 ^ i → v < w → w * 128 ≤ 9223372036854775808
weight_room i w v b few weighs bound = (room i w v b few weighs bound).1

pub last_weight : (i w : ℕ) → w ≡ 128 ^ i → i ≡ 9 → w ≤ 9223372036854775808
last_weight i w weighs nine =
    let weight : w ≡ 128 ^ 9 = weighs ∙ ap (λ (n : ℕ). 128 ^ n) nine in
    omega (arith, weight)

-- the tenth byte of a number that is accepted
accepted_tenth : (source : Source) (inside : source.last ≤ length source.whole) (place w v : ℕ) (whole : Outcome ℤ) → left_gives 0 w v (rest source place) place ≡ whole → (below : Bool) (b : ℕ) → (unsigned w8 source place).value ≡ Ok b →
    is_bad b ≡ false → nat_le 64 (b % 128) ≡ below → number_by below (v + w * (b % 128)) (w * 128) ≡ number_by below v w → whole ≡ record { value = Ok (number_by below v w); place = place + 1 }
accepted_tenth source inside place w v whole number below b is good sign same =
    tenth_turn source inside place 9 w v whole number below b is refl good sign ∙ ap (λ (z : ℤ). let o : Outcome ℤ = record { value = Ok z; place = place + 1 } in o) same

pub tenth_accepted : (source : Source) (inside : source.last ≤ length source.whole) (place i w v : ℕ) (whole : Outcome ℤ) → left_gives (9 - i) w v (rest source place) place ≡ whole → (b : ℕ) → (unsigned w8 source place).value ≡ Ok b →
    i ≡ 9 → v < w → (b ≡ 0) ⊎ (b ≡ 127) → whole ≡ record { value = Ok (number_by (not (b == 0)) v w); place = place + 1 }
tenth_accepted source inside place i w v whole number b is nine below either =
    let none : 9 - i ≡ 0 = omega arith in
    let left : left_gives 0 w v (rest source place) place ≡ whole = subst (λ m. left_gives m w v (rest source place) place ≡ whole) none number in
    ⊎_elim
    (λ (e : b ≡ 0). let is' = subst (λ x. (unsigned w8 source place).value ≡ Ok x) e is in
    accepted_tenth source inside place w v whole left false 0 is' refl refl (tenth_of_plus v w) ∙ ap (λ (x : ℕ). let o : Outcome ℤ = record { value = Ok (number_by (not (x == 0)) v w); place = place + 1 } in o) (sym e))
    (λ (e : b ≡ 127). let is' = subst (λ x. (unsigned w8 source place).value ≡ Ok x) e is in
    accepted_tenth source inside place w v whole left true 127 is' refl refl (tenth_of_minus v w below) ∙ ap (λ (x : ℕ). let o : Outcome ℤ = record { value = Ok (number_by (not (x == 0)) v w); place = place + 1 } in o) (sym e))
    either

-- ---- the same of readers: one began at the number, and stands here in it

abbrev of_byte : Outcome ℕ → Result ℕ Error
of_byte o = o.value

abbrev place_of : Outcome ℕ → ℕ
place_of o = o.place

abbrev refused : Error → ℕ → Outcome ℤ
refused e p = record { value = Err e; place = p }

abbrev read_as : ℤ → ℕ → Outcome ℤ
read_as n p = record { value = Ok n; place = p }

module _ (began here : Position) (sound : IsSound here) (same : here.source ≡ began.source) (i w v : ℕ)
    (number : left_gives (9 - i) w v (bytes_left here) here.place ≡ signed_leb128 began.source began.place) where
  pub reads_refused : (e : Error) (after : Position) → Reads (λ x. x) (unsigned w8) here (Err e) after → Reads (λ x. x) signed_leb128 began (Err e) after
  reads_refused e after byte =
      let is = ap of_byte byte.0 in
      let stays = sym (no_byte_there here.source here.place e is).2 ∙ ap place_of byte.0 in
      (turn_ended here.source sound.within here.place i w v _ number e is ∙ ap (refused e) stays, byte.1 ∙ same)

  pub reads_last : (b low : ℕ) (z : ℤ) (after : Position) → Reads (λ x. x) (unsigned w8) here (Ok b) after → b < 128 → i < 9 → w ≡ 128 ^ i → v < w → low ≡ b % 128 →
      z ≡ number_by (nat_le 64 b) (v + low * w) (w * 128) → Reads (λ x. x) signed_leb128 began (Ok (cast_signed w64 (cast_unsigned w64 z))) after
  reads_last b low z after byte small few weighs bound lower signed =
      let is = ap of_byte byte.0 in
      let whole : b % 128 ≡ b = omega arith in
      let ends = turn_last here.source sound.within here.place i w v _ number (nat_le 64 b) b is small few (ap (nat_le 64) whole) in
      let next = sym (byte_there here.source here.place b sound.within is).1 ∙ ap place_of byte.0 in
      let product : w * (b % 128) ≡ b % 128 * w = omega arith in
      let sum = ap (λ (x : ℕ). v + x) (product ∙ ap (λ (n : ℕ). n * w) (sym lower)) in
      let fits = room i w v b few weighs bound in
      let bits = signed_bits (nat_le 64 b) (v + low * w) (w * 128) z (rw lower fits.0) fits.1 signed in
      (ends ∙ ap (λ (x : ℕ). read_as (number_by (nat_le 64 b) x (w * 128)) (here.place + 1)) sum ∙ ap (λ (n : ℤ). read_as n (here.place + 1)) (sym bits) ∙ ap (read_as _) next, byte.1 ∙ same)

  pub reads_on : (b low : ℕ) (after : Position) → Reads (λ x. x) (unsigned w8) here (Ok b) after → 128 ≤ b → i < 9 → low ≡ b % 128 →
      left_gives (9 - (i + 1)) (w * 128) (v + low * w) (bytes_left after) after.place ≡ signed_leb128 began.source began.place
  reads_on b low after byte more few lower =
      let is = ap of_byte byte.0 in
      let next : after.place ≡ here.place + 1 = sym (ap place_of byte.0) ∙ (byte_there here.source here.place b sound.within is).1 in
      let further = turn_further here.source sound.within here.place i w v _ number b is more few in
      let product : b % 128 * w ≡ w * (b % 128) = omega arith in
      let sum = ap (λ (x : ℕ). v + x) (ap (λ (n : ℕ). n * w) lower ∙ product) in
      let m = 9 - (i + 1) in
      ap (λ (s : Source). left_gives m (w * 128) (v + low * w) (rest s after.place) after.place) byte.1
      ∙ ap (λ (p : ℕ). left_gives m (w * 128) (v + low * w) (rest here.source p) p) next
      ∙ ap (λ (x : ℕ). left_gives m (w * 128) x (rest here.source (here.place + 1)) (here.place + 1)) sum
      ∙ further

  pub reads_bad_tenth : (b : ℕ) (after : Position) → Reads (λ x. x) (unsigned w8) here (Ok b) after → i ≡ 9 → is_bad b ≡ true → Reads (λ x. x) signed_leb128 began (Err BadSignedLeb128) after
  reads_bad_tenth b after byte nine bad =
      let is = ap of_byte byte.0 in
      let next = sym (byte_there here.source here.place b sound.within is).1 ∙ ap place_of byte.0 in
      (tenth_refused here.source sound.within here.place i w v _ number b is nine bad ∙ ap (refused BadSignedLeb128) next, byte.1 ∙ same)

  pub reads_tenth : (b : ℕ) (z : ℤ) (after : Position) → Reads (λ x. x) (unsigned w8) here (Ok b) after → i ≡ 9 → w ≡ 128 ^ i → v < w → (b ≡ 0) ⊎ (b ≡ 127) →
      z ≡ number_by (not (b == 0)) v w → Reads (λ x. x) signed_leb128 began (Ok (cast_signed w64 (cast_unsigned w64 z))) after
  reads_tenth b z after byte nine weighs bound either signed =
      let is = ap of_byte byte.0 in
      let next = sym (byte_there here.source here.place b sound.within is).1 ∙ ap place_of byte.0 in
      let ends = tenth_accepted here.source sound.within here.place i w v _ number b is nine bound either in
      let bits = signed_bits (not (b == 0)) v w z bound (last_weight i w weighs nine) signed in
      (ends ∙ ap (λ (n : ℤ). read_as n (here.place + 1)) (sym bits) ∙ ap (read_as _) next, byte.1 ∙ same)
