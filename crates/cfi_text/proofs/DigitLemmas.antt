-- Digits in pairs.
use Rattle.std.proofs.Common.{◌≡◌, ℕ, zero, suc, ◌+◌, ◌/◌, ◌%◌, ◌^◌, ◌<◌, ◌≤◌, List, [], ◌∷◌, ◌++◌, refl, sym, ◌∙◌, ap, inl, inr, arith, append_assoc, false, true, cond, eqb}
use Rattle.std.proofs.lemmas.Bool.{cases_lt}
use Rattle.std.proofs.lemmas.Bool.Decides.{nat_tests}
use Rattle.std.proofs.lemmas.Fmt.{decimal_digit, decimal_step, hex_one_digit, hex_two_digits}
use Rattle.std.specs.Fmt.{decimal, digit_glyph, digits, digits_onto}

-- ---- decimal

pub decimal_two : (n : ℕ) → 10 ≤ n → n < 100 → decimal n ≡ (48 + n / 10) ∷ (48 + n % 10) ∷ []
decimal_two n low high =
    rw (decimal_step n low (omega arith), decimal_digit (n / 10) (omega arith)) refl

-- ---- hexadecimal

abbrev spell : ℕ → ℕ → List ℕ → List ℕ
spell k n acc = digits_onto k 16 false n acc

abbrev glyph : ℕ → ℕ
glyph n = digit_glyph false (n % 16)

digits_spelled : (n : ℕ) → digits 16 false n ≡ spell 64 n []
unfolding digits
digits_spelled n = refl

spell_last : (k n : ℕ) (acc : List ℕ) → n < 16 → spell (suc k) n acc ≡ glyph n ∷ acc
spell_last k n acc h =
    let last : eqb (n / 16) 0 ≡ true = let none : n / 16 ≡ 0 = omega arith in grind (arith, nat_tests) in
    ap (λ t. cond t (glyph n ∷ acc) (spell k (n / 16) (glyph n ∷ acc))) last

spell_next : (k n : ℕ) (acc : List ℕ) → 16 ≤ n → spell (suc k) n acc ≡ spell k (n / 16) (glyph n ∷ acc)
spell_next k n acc h =
    let more : eqb (n / 16) 0 ≡ false = let some : 1 ≤ n / 16 = omega arith in grind (arith, nat_tests) in
    ap (λ t. cond t (glyph n ∷ acc) (spell k (n / 16) (glyph n ∷ acc))) more

spell-append : (k n : ℕ) (acc : List ℕ) → spell k n acc ≡ spell k n [] ++ acc
spell-append zero n acc = refl
spell-append (suc k) n acc =
    elim (cases_lt n 16) [
      | inl one ↦ spell_last k n acc one ∙ ap (λ xs. xs ++ acc) (sym (spell_last k n [] one))
      | inr more ↦ spell_next k n acc more ∙ spell-append k (n / 16) (glyph n ∷ acc) ∙ sym (append_assoc (spell k (n / 16) []) (glyph n ∷ []) acc)
          ∙ ap (λ xs. xs ++ acc) (sym (spell_next k n [] more ∙ spell-append k (n / 16) (glyph n ∷ [])))
    ]

-- how many digits there may be does not matter where they are enough
spell_enough : (j k n : ℕ) (acc : List ℕ) → n < 16 ^ suc j → n < 16 ^ suc k → spell (suc j) n acc ≡ spell (suc k) n acc
spell_enough zero k n acc p q = spell_last zero n acc (omega arith) ∙ sym (spell_last k n acc (omega arith))
spell_enough (suc j) zero n acc p q = spell_last (suc j) n acc (omega arith) ∙ sym (spell_last zero n acc (omega arith))
spell_enough (suc j) (suc k) n acc p q =
    elim (cases_lt n 16) [
      | inl one ↦ spell_last (suc j) n acc one ∙ sym (spell_last (suc k) n acc one)
      | inr more ↦ spell_next (suc j) n acc more ∙ spell_enough j k (n / 16) (glyph n ∷ acc) (omega arith) (omega arith) ∙ sym (spell_next (suc k) n acc more)
    ]

hex_step : (n : ℕ) → 16 ≤ n → n < 2 ^ 64 → digits 16 false n ≡ digits 16 false (n / 16) ++ glyph n ∷ []
hex_step n low high =
    digits_spelled n ∙ spell_next 63 n [] low ∙ spell_enough 62 63 (n / 16) (glyph n ∷ []) (omega arith) (omega arith)
    ∙ spell-append 64 (n / 16) (glyph n ∷ []) ∙ ap (λ xs. xs ++ glyph n ∷ []) (sym (digits_spelled (n / 16)))

pub hex_pair : (n : ℕ) → 256 ≤ n → n < 2 ^ 64 → digits 16 false n ≡ digits 16 false (n / 256) ++ digit_glyph false (n % 256 / 16) ∷ digit_glyph false (n % 256 % 16) ∷ []
hex_pair n low high =
    let front : n / 16 / 16 ≡ n / 256 = omega arith in
    let first : n / 16 % 16 ≡ n % 256 / 16 = omega arith in
    let second : n % 16 ≡ n % 256 % 16 = omega arith in
    rw (hex_step n (omega arith) high, hex_step (n / 16) (omega arith) (omega arith), append_assoc, front, first, ← second) refl

abbrev pair : ℕ → List ℕ
pair n = digit_glyph false (n / 16) ∷ digit_glyph false (n % 16) ∷ []

abbrev triple : ℕ → List ℕ
triple n = digit_glyph false (n / 256) ∷ digit_glyph false (n / 16 % 16) ∷ digit_glyph false (n % 16) ∷ []

abbrev quad : ℕ → List ℕ
quad n = digit_glyph false (n / 4096) ∷ digit_glyph false (n / 256 % 16) ∷ digit_glyph false (n / 16 % 16) ∷ digit_glyph false (n % 16) ∷ []

pub hex_two : (n : ℕ) → 16 ≤ n → n < 256 → digits 16 false n ≡ pair n
hex_two n low high = hex_two_digits false n low high

pub hex_three : (n : ℕ) → 256 ≤ n → n < 4096 → digits 16 false n ≡ triple n
hex_three n low high =
    let second : n % 256 / 16 ≡ n / 16 % 16 = omega arith in
    let third : n % 256 % 16 ≡ n % 16 = omega arith in
    rw (hex_pair n low (omega arith), hex_one_digit false (n / 256) (omega arith), second, third) refl

pub hex_four : (n : ℕ) → 4096 ≤ n → n < 65536 → digits 16 false n ≡ quad n
hex_four n low high =
    let first : n / 256 / 16 ≡ n / 4096 = omega arith in
    let third : n % 256 / 16 ≡ n / 16 % 16 = omega arith in
    let fourth : n % 256 % 16 ≡ n % 16 = omega arith in
    rw (hex_pair n (omega arith) (omega arith), hex_two (n / 256) (omega arith) (omega arith), first, third, fourth) refl

-- behind what stands there
pub hex_wide : (old : List ℕ) (n : ℕ) → 65536 ≤ n → n < 2 ^ 64 → (old ++ digits 16 false (n / 65536)) ++ quad (n % 65536) ≡ old ++ digits 16 false n
hex_wide old n low high =
    let front : n / 256 / 256 ≡ n / 65536 = omega arith in
    let first : n / 256 % 256 / 16 ≡ n % 65536 / 4096 = omega arith in
    let second : n / 256 % 256 % 16 ≡ n % 65536 / 256 % 16 = omega arith in
    let third : n % 256 / 16 ≡ n % 65536 / 16 % 16 = omega arith in
    let fourth : n % 256 % 16 ≡ n % 65536 % 16 = omega arith in
    rw (append_assoc, ← first, ← second, ← third, ← fourth, ← front, hex_pair n (omega arith) high, hex_pair (n / 256) (omega arith) (omega arith), append_assoc) refl
