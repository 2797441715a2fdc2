-- Numbers in words.
use Rattle.std.proofs.Common.{◌≡◌, ◌≢◌, ℕ, ◌^◌, ◌<◌, ◌≤◌, Bool, true, false, ◌&&◌, List, [], ◌∷◌, ◌++◌, length, take, drop, Option, Some, None, Result, Ok, Err, option_map, refl, sym, ◌∙◌, ap, arith, if◌then◌else◌, nat_le, MatchOption, Bor}
use Rattle.std.proofs.Math.Nat.{pow-le-pow_right}
use Rattle.std.proofs.Math.Seq.{take-append_seam}
use Rattle.std.proofs.lemmas.Bool.{false_from_ne_true}
use Rattle.std.proofs.lemmas.List.{take-append-drop}
use Rattle.std.proofs.lemmas.Bool.Decides.{nat_tests}
use Rattle.std.proofs.lemmas.Int.Digits.{digits_value-lt}
use Rattle.std.proofs.lemmas.Slice.Eq.{bytes_eq-Decides}
use Rattle.std.proofs.lemmas.Str.Parse.{without_leading_plus_none}
use Rattle.std.specs.Char.{digit_value, is_ascii_digit, is_ascii_hexdigit}
use Rattle.std.specs.List.{list_all}
use Rattle.std.specs.Result.{result_ok, OkIff}
use Rattle.std.specs.Str.{bytes_eq}
use Rattle.std.specs.Str.Parse.{AllDigits, IsNumeral, digits_value, ParsesUnsigned, without_leading_plus}
use Rattle.std.specs.Str.Pattern.{FindsTextPrefix, StripsPrefix}
use Rattle.cfi_programs.specs.Numbers.{after_prefix, below_2_64, decimal_number, hexadecimal_number}

-- ---- digits

both : (a b : Bool) → (a && b) ≡ true → (a ≡ true) × (b ≡ true)
both a b e = grind arith

hexadecimal_digit : (c : ℕ) → is_ascii_hexdigit c ≡ true → digit_value c < 16
hexadecimal_digit c e = grind (arith, nat_tests)

decimal_digit : (c : ℕ) → is_ascii_digit c ≡ true → digit_value c < 10
decimal_digit c e = grind (arith, nat_tests)

all_digits : (radix : ℕ) (p : ℕ → Bool) → ((c : ℕ) → p c ≡ true → digit_value c < radix) → (ds : List ℕ) → list_all p ds ≡ true → AllDigits radix ds
all_digits radix p h [] e = tt
all_digits radix p h (c ∷ cs) e = let parts = both (p c) (list_all p cs) e in (h c parts.0, all_digits radix p h cs parts.1)

plus_is_no_digit : (radix c : ℕ) → radix ≤ 36 → digit_value c < radix → c ≢ 43
plus_is_no_digit radix c small h = grind (arith, nat_tests)

no_plus : (radix : ℕ) (ds : List ℕ) → radix ≤ 36 → AllDigits radix ds → 0 < length ds → without_leading_plus ds ≡ ds
no_plus radix [] small h some = absurd (omega arith)
no_plus radix (c ∷ cs) small h some = without_leading_plus_none (c ∷ cs) (plus_is_no_digit radix c small h.0)

within : (v : ℕ) → v < 2 ^ 64 → Some v ≡ below_2_64 v
within v h = grind (arith, nat_tests)

above : (v : ℕ) → (v < 2 ^ 64 → ⊥) → None ≡ below_2_64 v
above v h = grind (arith, nat_tests)

parsed_plain : {E : Type 0} (radix : ℕ) (ds : List ℕ) (r : Result ℕ E) → IsNumeral radix ds → OkIff r (IsNumeral radix ds × (digits_value radix ds < 2 ^ 64)) (digits_value radix ds) → result_ok r ≡ below_2_64 (digits_value radix ds)
parsed_plain radix ds (Ok v) numeral h = ap Some h.1 ∙ within _ h.0.1
parsed_plain radix ds (Err e) numeral h = above _ (λ small. h (numeral, small))

parsed : {E : Type 0} (radix : ℕ) (ds : List ℕ) (r : Result ℕ E) → radix ≤ 36 → AllDigits radix ds → 0 < length ds → ParsesUnsigned 64 radix ds r → result_ok r ≡ below_2_64 (digits_value radix ds)
parsed radix ds r small all some h = parsed_plain radix ds r (some, all) (rw (no_plus radix ds small all some) at h)

fits : (n most : ℕ) → 0 < n → n ≤ most → (nat_le 1 n && nat_le n most) ≡ true
fits n most low high = grind (arith, nat_tests)

chosen : {A : Type 0} (a b : Bool) (x y : A) → a ≡ true → b ≡ true → (if a && b then x else y) ≡ x
chosen a b x y p q = rw (p, q) refl

powers : (n : ℕ) → n ≤ 16 → 16 ^ n ≤ 2 ^ 64
powers n h = pow-le-pow_right {n = 16} (omega arith) h

pub hexadecimal_is : {E : Type 0} (ds : List ℕ) (r : Result ℕ E) → ParsesUnsigned 64 16 ds r → 0 < length ds → length ds ≤ 16 → list_all is_ascii_hexdigit ds ≡ true → result_ok r ≡ hexadecimal_number ds
hexadecimal_is ds r h low high all =
    let digits = all_digits 16 is_ascii_hexdigit hexadecimal_digit ds all in
    let value : digits_value 16 ds < 2 ^ 64 = omega (arith, digits_value-lt 16 ds digits, powers (length ds) high) in
    parsed 16 ds r (omega arith) digits low h ∙ sym (within _ value) ∙ sym (chosen _ _ _ _ (fits _ 16 low high) all)

pub decimal_is : {E : Type 0} (ds : List ℕ) (r : Result ℕ E) → ParsesUnsigned 64 10 ds r → 0 < length ds → length ds ≤ 20 → list_all is_ascii_digit ds ≡ true → result_ok r ≡ decimal_number ds
decimal_is ds r h low high all = parsed 10 ds r (omega arith) (all_digits 10 is_ascii_digit decimal_digit ds all) low h ∙ sym (chosen _ _ _ _ (fits _ 20 low high) all)

-- ---- what stands after a beginning

begins_at : (start rest : List ℕ) → bytes_eq (take (length start) (start ++ rest)) start ≡ true
begins_at start rest = rw take-append_seam ((bytes_eq-Decides start start).1 refl)

begins : (start word : List ℕ) (rest : List ℕ) → word ≡ start ++ rest → after_prefix start word ≡ Some (drop (length start) word)
begins start word rest e =
    let same : bytes_eq (take (length start) word) start ≡ true = rw e (begins_at start rest) in
    rw same refl

begins_not : (start word : List ℕ) → ((rest : List ℕ) → word ≢ start ++ rest) → after_prefix start word ≡ None
begins_not start word h =
    let other : bytes_eq (take (length start) word) start ≡ false =
    false_from_ne_true _ (λ e. h (drop (length start) word) (sym (take-append-drop (length start) word) ∙ ap (λ front. front ++ drop (length start) word) ((bytes_eq-Decides _ start).0 e))) in
    rw other refl

pub after_is : (start word : List ℕ) (r : Option (Bor (List ℕ))) → MatchOption r (FindsTextPrefix start word None) (λ x. StripsPrefix (FindsTextPrefix start) word x.now) → option_map (λ rest. rest.now) r ≡ after_prefix start word
after_is start word None h = sym (begins_not start word (λ rest e. h rest e))
after_is start word (Some x) (n, found, rest, fits) = ap (λ k. Some k) rest ∙ ap (λ k. Some (drop k word)) found.0 ∙ sym (begins start word (drop n word) found.1)
