-- What a reader of JSON gets from the characters of a string.
use Rattle.std.proofs.Common.{◌≡◌, ◌∙◌, ℕ, zero, suc, ◌-◌, ◌/◌, ◌%◌, ◌<◌, ◌≤◌, ◌==◌, ◌⊎◌, Bool, true, false, cond, nat_le, nat_lt, List, [], ◌∷◌, ◌++◌, Option, Some, None, codes, refl, sym, ap, subst, inl, inr, arith, append_assoc, append-nil, length, take, drop, ◌&&◌}
use Rattle.std.specs.Prelude.{option_and_then, if◌then◌else◌}
use Rattle.std.specs.List.{flat_map}
use Rattle.std.specs.Char.{digit_value, encode_utf8}
use Rattle.std.specs.Fmt.{decimal, digit_glyph, digits, digits_onto}
use Rattle.std.proofs.lemmas.Bool.{cases_eq, cases_lt, le-ltb, lt-leb, lt-ltb, ltb-true, leb-true, ne_eqb, or_cases, and_parts}
use Rattle.std.proofs.lemmas.Str.{digit_value-digit_char, encode_ascii}
use Rattle.bstr.specs.Utf8.{decoded, or_replacement, replacement}
use Rattle.bstr.proofs.lemmas.EncodeLemmas.{decoded-encode}
use Rattle.bstr.proofs.lemmas.SoundLemmas.{SpellsChar-decoded}
use Rattle.std.proofs.lemmas.List.{take_at}
use Rattle.json.specs.Text.{after_high, code_unit, content, is_high_surrogate, is_low_surrogate, plain, prepend, short_escape}
use Rattle.json.specs.Lex.{Lexeme, Mode, in_string, lex, lex_byte, operator, other, space}
use Rattle.json.specs.Word.{is_operator, is_space}
use Rattle.cfi_text.specs.declared.name_parts.Kind.TheVariants.{Shown, Control}
use Rattle.cfi_text.specs.JsonTexts.{json_escape, json_escaped, json_kind, json_name, json_part, number_escape, replacement as replaced}
use Rattle.cfi_text.specs.Names.{byte_digits, first_part, is_control, kind_of, parts_after, scalar}
use Rattle.cfi_text.specs.Lines.{address_text}
use Rattle.cfi_json.specs.Json.{kind_read, name_read, part_read}

-- ---- what a reader gets from some characters, and that the lexer passes over them, before any text

pub record Reads (characters bytes : List ℕ) : Type 0 where
  pub read : (r : List ℕ) → content plain (characters ++ r) ≡ prepend bytes (content plain r)
  pub passed : (r : List ℕ) → lex in_string (characters ++ r) ≡ lex in_string r

prepend-nil : (r : Option (List ℕ)) → prepend [] r ≡ r
prepend-nil None = refl
prepend-nil (Some s) = refl

prepend-prepend : (a b : List ℕ) (r : Option (List ℕ)) → prepend a (prepend b r) ≡ prepend (a ++ b) r
prepend-prepend a b None = refl
prepend-prepend a b (Some s) = ap Some (sym (append_assoc a b s))

reads_nothing : Reads [] []
reads_nothing = record { read = λ r. sym (prepend-nil (content plain r)); passed = λ r. refl }

reads_both : (x y a b : List ℕ) → Reads x a → Reads y b → Reads (x ++ y) (a ++ b)
reads_both x y a b p q = record {
  read = λ r. ap (content plain) (append_assoc x y r) ∙ p.read (y ++ r) ∙ ap (prepend a) (q.read r) ∙ prepend-prepend a b (content plain r);
  passed = λ r. ap (lex in_string) (append_assoc x y r) ∙ p.passed (y ++ r) ∙ q.passed r;
}

-- ---- a byte

stays : (o s : Bool) (x : ℕ) (r : List ℕ) (k : Mode → List Lexeme) → lex_byte in_string (cond o operator (cond s space other)) x r k ≡ k in_string
stays true s x r k = refl
stays false true x r k = refl
stays false false x r k = refl

pass_plain : (x : ℕ) (r : List ℕ) → (x ≡ 34 → ⊥) → (x ≡ 92 → ⊥) → lex in_string (x ∷ r) ≡ lex in_string r
unfolding lex
pass_plain x r q b = rw (ne_eqb x 34 q, ne_eqb x 92 b) (stays (is_operator x) (is_space x) x r (λ m. lex m r))

pub reads_plain : (x : ℕ) → (x ≡ 34 → ⊥) → (x ≡ 92 → ⊥) → 32 ≤ x → Reads (x ∷ []) (x ∷ [])
unfolding content
reads_plain x q b l = record {
  read = λ r. rw (ne_eqb x 34 q, ne_eqb x 92 b, le-ltb x 32 l);
  passed = λ r. pass_plain x r q b;
}

-- ---- a digit

abbrev pub glyph : ℕ → ℕ
glyph d = digit_glyph false d

glyph_range : (d : ℕ) → d < 16 → (48 ≤ glyph d) × (glyph d < 58) ⊎ (97 ≤ glyph d) × (glyph d < 103)
glyph_range d h = by (cases_lt d 10)
  where
    by : (d < 10) ⊎ (10 ≤ d) → (48 ≤ glyph d) × (glyph d < 58) ⊎ (97 ≤ glyph d) × (glyph d < 103)
    by (inl low) = rw (lt-ltb d 10 low) (inl (omega arith, omega arith))
    by (inr high) = rw (le-ltb d 10 high) (inr (omega arith, omega arith))

pub no_quote : (d : ℕ) → d < 16 → glyph d ≡ 34 → ⊥
no_quote d h e = elim (glyph_range d h) [ inl low ↦ omega (arith, e, low.0) | inr high ↦ omega (arith, e, high.0) ]

pub no_backslash : (d : ℕ) → d < 16 → glyph d ≡ 92 → ⊥
no_backslash d h e = elim (glyph_range d h) [ inl low ↦ omega (arith, e, low.1) | inr high ↦ omega (arith, e, high.0) ]

pub no_control : (d : ℕ) → d < 16 → 32 ≤ glyph d
no_control d h = elim (glyph_range d h) [ inl low ↦ omega (arith, low.0) | inr high ↦ omega (arith, high.0) ]

reads_digit : (d : ℕ) → d < 16 → Reads (glyph d ∷ []) (glyph d ∷ [])
reads_digit d h = reads_plain (glyph d) (no_quote d h) (no_backslash d h) (no_control d h)

-- ---- the escape of a number

abbrev of_unit : List ℕ → ℕ → Option (List ℕ)
of_unit r u = cond (is_high_surrogate u) (content (after_high u) r) (cond (is_low_surrogate u) None (prepend (encode_utf8 u) (content plain r)))

value : (d : ℕ) → d < 16 → digit_value (glyph d) ≡ d
value d h = digit_value-digit_char d (omega (arith, h))

unit_read : (n : ℕ) → n < 0x10000 → code_unit (glyph (n / 0x1000 % 16)) (glyph (n / 0x100 % 16)) (glyph (n / 16 % 16)) (glyph (n % 16)) ≡ Some n
unfolding code_unit
unit_read n h =
    let a = n / 0x1000 % 16 in
    let b = n / 0x100 % 16 in
    let c = n / 16 % 16 in
    let d = n % 16 in
    let small_a : a < 16 = omega arith in
    let small_b : b < 16 = omega arith in
    let small_c : c < 16 = omega arith in
    let small_d : d < 16 = omega arith in
    rw (value a small_a, value b small_b, value c small_c, value d small_d, lt-ltb a 16 small_a, lt-ltb b 16 small_b, lt-ltb c 16 small_c, lt-ltb d 16 small_d) (ap Some (omega arith))

pub reads_number_escape : (n : ℕ) → n < 0xd800 → Reads (number_escape n) (encode_utf8 n)
unfolding content lex
reads_number_escape n h =
    let a = n / 0x1000 % 16 in
    let b = n / 0x100 % 16 in
    let c = n / 16 % 16 in
    let d = n % 16 in
    let pass : (m : ℕ) (r : List ℕ) → m < 16 → lex in_string (glyph m ∷ r) ≡ lex in_string r = λ m r small. pass_plain (glyph m) r (no_quote m small) (no_backslash m small) in
    record {
      read = λ r.
          ap (option_and_then (of_unit r)) (unit_read n (omega (arith, h)))
          ∙ rw (lt-leb 0xd800 n h, lt-leb 0xdc00 n (omega (arith, h))) refl;
      passed = λ r.
          pass a (glyph b ∷ glyph c ∷ glyph d ∷ r) (omega arith) ∙ pass b (glyph c ∷ glyph d ∷ r) (omega arith)
          ∙ pass c (glyph d ∷ r) (omega arith) ∙ pass d r (omega arith);
    }

-- ---- a byte of a text

control_escape : (c : ℕ) → c < 32 → number_escape c ≡ codes "\\u00" ++ byte_digits c
control_escape c h =
    let first : c / 0x1000 % 16 ≡ 0 = omega arith in
    let second : c / 0x100 % 16 ≡ 0 = omega arith in
    let third : c / 16 % 16 ≡ c / 16 = omega arith in
    rw (first, second, third) refl

reads_control : (c : ℕ) → c < 32 → Reads (codes "\\u00" ++ byte_digits c) (c ∷ [])
reads_control c h = subst (λ (x : List ℕ). Reads x (c ∷ [])) (control_escape c h) (subst (λ (x : List ℕ). Reads (number_escape c) x) (encode_ascii c (omega (arith, h))) (reads_number_escape c (omega (arith, h))))

reads_quote : Reads (json_escape 34) (34 ∷ [])
unfolding content lex short_escape
reads_quote = record { read = λ r. refl; passed = λ r. refl }

reads_backslash : Reads (json_escape 92) (92 ∷ [])
unfolding content lex short_escape
reads_backslash = record { read = λ r. refl; passed = λ r. refl }

reads_byte : (c : ℕ) → Reads (json_escape c) (c ∷ [])
reads_byte c = by (cases_eq c 34) (cases_eq c 92) (cases_lt c 32)
  where
    by : (c ≡ 34) ⊎ (c ≡ 34 → ⊥) → (c ≡ 92) ⊎ (c ≡ 92 → ⊥) → (c < 32) ⊎ (32 ≤ c) → Reads (json_escape c) (c ∷ [])
    by (inl e) b l = subst (λ x. Reads (json_escape x) (x ∷ [])) (sym e) reads_quote
    by (inr q) (inl e) l = subst (λ x. Reads (json_escape x) (x ∷ [])) (sym e) reads_backslash
    by (inr q) (inr b) (inl l) = rw (ne_eqb c 34 q, ne_eqb c 92 b, lt-ltb c 32 l) (reads_control c l)
    by (inr q) (inr b) (inr l) = rw (ne_eqb c 34 q, ne_eqb c 92 b, le-ltb c 32 l) (reads_plain c q b l)

pub reads_text : (text : List ℕ) → Reads (json_escaped text) text
reads_text [] = reads_nothing
reads_text (c ∷ cs) = reads_both (json_escape c) (json_escaped cs) (c ∷ []) cs (reads_byte c) (reads_text cs)

-- ---- digits

-- of a base of 16 at most
reads_digits : (base : ℕ) → ((m : ℕ) → m % base < 16) → (k n : ℕ) (acc : List ℕ) → Reads acc acc → Reads (digits_onto k base false n acc) (digits_onto k base false n acc)
reads_digits base small zero n acc h = h
reads_digits base small (suc k) n acc h =
    let next : Reads (glyph (n % base) ∷ acc) (glyph (n % base) ∷ acc) = reads_both (glyph (n % base) ∷ []) acc (glyph (n % base) ∷ []) acc (reads_digit (n % base) (small n)) h in
    either (n / base == 0) (glyph (n % base) ∷ acc) (digits_onto k base false (n / base) (glyph (n % base) ∷ acc)) next (reads_digits base small k (n / base) (glyph (n % base) ∷ acc) next)
  where
    either : (b : Bool) (x y : List ℕ) → Reads x x → Reads y y → Reads (cond b x y) (cond b x y)
    either true x y p q = p
    either false x y p q = q

pub reads_decimal : (n : ℕ) → Reads (decimal n) (decimal n)
unfolding digits
reads_decimal n = reads_digits 10 (λ m. omega arith) 64 n [] reads_nothing

reads_0x : Reads (codes "0x") (codes "0x")
unfolding content lex
reads_0x = record { read = λ r. prepend-prepend (48 ∷ []) (120 ∷ []) (content plain r); passed = λ r. refl }

pub reads_address : (a : ℕ) → Reads (address_text a) (address_text a)
unfolding digits
reads_address a = reads_both (codes "0x") (digits_onto 64 16 false a []) (codes "0x") (digits_onto 64 16 false a []) reads_0x (reads_digits 16 (λ m. omega arith) 64 a [] reads_nothing)

-- ---- a name

reads_one : Reads (codes "\\ufffd") (encode_utf8 replacement)
unfolding content lex code_unit encode_utf8
reads_one = record { read = λ r. refl; passed = λ r. refl }

reads_stray : (bytes : List ℕ) → Reads (flat_map replaced bytes) (flat_map (λ b. encode_utf8 replacement) bytes)
reads_stray [] = reads_nothing
reads_stray (b ∷ bytes) = reads_both (codes "\\ufffd") (flat_map replaced bytes) (encode_utf8 replacement) (flat_map (λ x. encode_utf8 replacement) bytes) reads_one (reads_stray bytes)

control_below : (c : ℕ) → is_control c ≡ true → c < 0xd800
control_below c is = elim (or_cases (nat_lt c 0x20) (nat_le 0x7f c && nat_le c 0x9f) is) [
  | inl low ↦ omega (arith, ltb-true c 0x20 low)
  | inr high ↦ omega (arith, leb-true c 0x9f (and_parts (nat_le 0x7f c) (nat_le c 0x9f) high).1)
]

-- over the bytes of the first part
module _ (bytes : List ℕ) where
  abbrev front : List ℕ
  front = take (decoded bytes).size bytes

  reads_control_part : (c : ℕ) → (decoded bytes).char ≡ Some c → is_control c ≡ true → Reads (number_escape (scalar front)) front
  reads_control_part c found is =
      let spelled = SpellsChar-decoded bytes c found in
      let size = (decoded bytes).size in
      let whole : front ≡ encode_utf8 c = ap (take size) spelled.bytes ∙ take_at (encode_utf8 c) (drop size bytes) size spelled.width in
      let again : scalar (encode_utf8 c) ≡ c = ap (λ (xs : List ℕ). or_replacement (decoded xs).char) (sym (append-nil (encode_utf8 c))) ∙ ap (λ p. or_replacement p.char) (decoded-encode c [] spelled.scalar) in
      subst (λ (xs : List ℕ). Reads (number_escape (scalar xs)) xs) (sym whole) (subst (λ (n : ℕ). Reads (number_escape n) (encode_utf8 c)) (sym again) (reads_number_escape c (control_below c is)))

  reads_character : (c : ℕ) → (decoded bytes).char ≡ Some c → (is : Bool) → is_control c ≡ is → Reads (json_kind (if is then Control else Shown) front) (kind_read (if is then Control else Shown) front)
  reads_character c found true is = reads_control_part c found is
  reads_character c found false is = reads_text front

  reads_either : (o : Option ℕ) → (decoded bytes).char ≡ o → Reads (json_kind (kind_of o) front) (kind_read (kind_of o) front)
  reads_either None found = reads_stray front
  reads_either (Some c) found = reads_character c found (is_control c) refl

  reads_first : Reads (json_part (first_part bytes)) (part_read (first_part bytes))
  reads_first = reads_either (decoded bytes).char refl

reads_parts : (k : ℕ) (bytes : List ℕ) → Reads (flat_map json_part (parts_after k bytes)) (flat_map part_read (parts_after k bytes))
reads_parts zero [] = reads_nothing
reads_parts (suc k) [] = reads_nothing
reads_parts zero (b ∷ bytes) =
    let first = first_part (b ∷ bytes) in
    let more = parts_after (length first.bytes - 1) bytes in
    reads_both (json_part first) (flat_map json_part more) (part_read first) (flat_map part_read more) (reads_first (b ∷ bytes)) (reads_parts (length first.bytes - 1) bytes)
reads_parts (suc k) (b ∷ bytes) = reads_parts k bytes

pub reads_name : (name : List ℕ) → Reads (json_name name) (name_read name)
reads_name name = reads_parts 0 name
