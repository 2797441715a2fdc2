-- Texts in which no character is escaped.
use Rattle.std.proofs.Common.{◌≡◌, ℕ, zero, suc, ◌/◌, ◌%◌, ◌<◌, ◌==◌, ◌||◌, Bool, true, false, cond, nat_lt, List, [], ◌∷◌, ◌++◌, take, refl, ap₂, arith}
use Rattle.std.specs.Prelude.{⊤}
use Rattle.std.specs.Fmt.{decimal, digits, digits_onto}
use Rattle.std.proofs.lemmas.Bool.{and_parts, le-ltb, ne_eqb, not-true, or_parts}
use Rattle.std.specs.List.{list_all}
use Rattle.json.specs.Run.{is_plain}
use Rattle.cfi_text.specs.JsonTexts.{json_escape, json_escaped}
use Rattle.cfi_json.proofs.Strings.{glyph, no_backslash, no_control, no_quote}

abbrev pub ArePlain : List ℕ → Type 0
ArePlain [] = ⊤
ArePlain (c ∷ cs) = (json_escape c ≡ c ∷ []) × ArePlain cs

pub escaped_plain : (cs : List ℕ) → ArePlain cs → json_escaped cs ≡ cs
escaped_plain [] h = refl
escaped_plain (c ∷ cs) h = ap₂ (λ (a b : List ℕ). a ++ b) h.0 (escaped_plain cs h.1)

pub plain_from : (cs : List ℕ) → list_all is_plain cs ≡ true → ArePlain cs
plain_from [] h = tt
plain_from (c ∷ cs) h =
    let both = and_parts (is_plain c) (list_all is_plain cs) h in
    let none = or_parts ((c == 34) || (c == 92)) (nat_lt c 32) (not-true ((c == 34) || (c == 92) || nat_lt c 32) both.0) in
    let tests = or_parts (c == 34) (c == 92) none.0 in
    (rw (tests.0, tests.1, none.1) refl, plain_from cs both.1)

pub plain_both : (xs ys : List ℕ) → ArePlain xs → ArePlain ys → ArePlain (xs ++ ys)
plain_both [] ys h k = k
plain_both (x ∷ xs) ys h k = (h.0, plain_both xs ys h.1 k)

pub plain_take : (n : ℕ) (xs : List ℕ) → ArePlain xs → ArePlain (take n xs)
plain_take zero [] h = tt
plain_take zero (x ∷ xs) h = tt
plain_take (suc n) [] h = tt
plain_take (suc n) (x ∷ xs) h = (h.0, plain_take n xs h.1)

plain_glyph : (d : ℕ) → d < 16 → json_escape (glyph d) ≡ glyph d ∷ []
plain_glyph d h = rw (ne_eqb (glyph d) 34 (no_quote d h), ne_eqb (glyph d) 92 (no_backslash d h), le-ltb (glyph d) 32 (no_control d h)) refl

plain_digits : (base : ℕ) → ((m : ℕ) → m % base < 16) → (k n : ℕ) (acc : List ℕ) → ArePlain acc → ArePlain (digits_onto k base false n acc)
plain_digits base small zero n acc h = h
plain_digits base small (suc k) n acc h =
    let next : ArePlain (glyph (n % base) ∷ acc) = (plain_glyph (n % base) (small n), h) in
    either (n / base == 0) (glyph (n % base) ∷ acc) (digits_onto k base false (n / base) (glyph (n % base) ∷ acc)) next (plain_digits base small k (n / base) (glyph (n % base) ∷ acc) next)
  where
    either : (b : Bool) (x y : List ℕ) → ArePlain x → ArePlain y → ArePlain (cond b x y)
    either true x y p q = p
    either false x y p q = q

pub plain_decimal : (n : ℕ) → ArePlain (decimal n)
unfolding digits
plain_decimal n = plain_digits 10 (λ m. omega arith) 64 n [] tt
