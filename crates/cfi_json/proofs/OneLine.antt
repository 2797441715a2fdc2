-- No text of a value has a control character, so that it has no line feed.
use Rattle.std.proofs.Common.{◌≡◌, ℕ, zero, suc, ◌/◌, ◌%◌, ◌^◌, ◌<◌, ◌≤◌, ◌==◌, ◌⊎◌, Bool, true, false, cond, nat_le, nat_lt, List, [], ◌∷◌, ◌++◌, codes, refl, sym, subst, inl, inr, arith}
use Rattle.std.specs.List.{All, flat_map, list_all}
use Rattle.std.specs.Fmt.{decimal, digits, digits_onto}
use Rattle.std.proofs.lemmas.Bool.{and_parts, cases_eq, cases_lt, le-ltb, leb-true, lt-ltb, ne_eqb}
use Rattle.cfi_text.specs.declared.name_parts.Kind.{Kind}
use Rattle.cfi_text.specs.declared.name_parts.Kind.TheVariants.{Shown, Control, Stray}
use Rattle.cfi_text.specs.JsonTexts.{json_escape, json_escaped, json_kind, json_name, json_number, json_part, number_escape, replacement, separated}
use Rattle.cfi_text.specs.Lines.{address_text}
use Rattle.cfi_text.specs.Names.{byte_digits, parts, scalar}
use Rattle.cfi_json.specs.Json.{Json, name, text, number, address, flag, array, object, Items, no_items, item, Members, no_members, member, flag_text, items_text, json_text, members_text, quoted}
use Rattle.cfi_json.proofs.Building.{Each, each_both}
use Rattle.cfi_json.proofs.Strings.{glyph, no_control}

abbrev IsClear : List ℕ → Type 0
IsClear characters = Each (λ c. 32 ≤ c) characters

clear_both : (xs ys : List ℕ) → IsClear xs → IsClear ys → IsClear (xs ++ ys)
clear_both xs ys h k = each_both (λ c. 32 ≤ c) xs ys h k

clear_from : (cs : List ℕ) → list_all (nat_le 32) cs ≡ true → IsClear cs
clear_from [] h = tt
clear_from (c ∷ cs) h =
    let both = and_parts (nat_le 32 c) (list_all (nat_le 32) cs) h in
    (leb-true 32 c both.0, clear_from cs both.1)

clear_each : {X : Type 0} (f : X → List ℕ) → ((x : X) → IsClear (f x)) → (xs : List X) → IsClear (flat_map f xs)
clear_each f h [] = tt
clear_each f h (x ∷ xs) = clear_both (f x) (flat_map f xs) (h x) (clear_each f h xs)

clear_quoted : (characters : List ℕ) → IsClear characters → IsClear (quoted characters)
clear_quoted characters h = (omega arith, clear_both characters (codes "\"") h (clear_from (codes "\"") refl))

-- ---- digits

clear_digits : (base : ℕ) → ((m : ℕ) → m % base < 16) → (k n : ℕ) (acc : List ℕ) → IsClear acc → IsClear (digits_onto k base false n acc)
clear_digits base small zero n acc h = h
clear_digits base small (suc k) n acc h =
    let next : IsClear (glyph (n % base) ∷ acc) = (no_control (n % base) (small n), h) in
    either (n / base == 0) (glyph (n % base) ∷ acc) (digits_onto k base false (n / base) (glyph (n % base) ∷ acc)) next (clear_digits base small k (n / base) (glyph (n % base) ∷ acc) next)
  where
    either : (b : Bool) (x y : List ℕ) → IsClear x → IsClear y → IsClear (cond b x y)
    either true x y p q = p
    either false x y p q = q

clear_decimal : (n : ℕ) → IsClear (decimal n)
unfolding digits
clear_decimal n = clear_digits 10 (λ m. omega arith) 64 n [] tt

clear_address : (a : ℕ) → IsClear (address_text a)
unfolding digits
clear_address a = clear_both (codes "0x") (digits_onto 64 16 false a []) (clear_from (codes "0x") refl) (clear_digits 16 (λ m. omega arith) 64 a [] tt)

clear_number : (n : ℕ) → IsClear (json_number n)
clear_number n = by (nat_lt n (2 ^ 53))
  where
    by : (b : Bool) → IsClear (cond b (decimal n) (quoted (decimal n)))
    by true = clear_decimal n
    by false = clear_quoted (decimal n) (clear_decimal n)

-- ---- strings

clear_byte : (c : ℕ) → c < 32 → IsClear (byte_digits c)
clear_byte c h = (no_control (c / 16) (omega (arith, h)), (no_control (c % 16) (omega arith), tt))

clear_escape : (c : ℕ) → IsClear (json_escape c)
clear_escape c = by (cases_eq c 34) (cases_eq c 92) (cases_lt c 32)
  where
    by : (c ≡ 34) ⊎ (c ≡ 34 → ⊥) → (c ≡ 92) ⊎ (c ≡ 92 → ⊥) → (c < 32) ⊎ (32 ≤ c) → IsClear (json_escape c)
    by (inl e) b l = subst (λ x. IsClear (json_escape x)) (sym e) (clear_from (json_escape 34) refl)
    by (inr q) (inl e) l = subst (λ x. IsClear (json_escape x)) (sym e) (clear_from (json_escape 92) refl)
    by (inr q) (inr b) (inl l) = rw (ne_eqb c 34 q, ne_eqb c 92 b, lt-ltb c 32 l) (clear_both (codes "\\u00") (byte_digits c) (clear_from (codes "\\u00") refl) (clear_byte c l))
    by (inr q) (inr b) (inr l) = rw (ne_eqb c 34 q, ne_eqb c 92 b, le-ltb c 32 l) (l, tt)

clear_number_escape : (n : ℕ) → IsClear (number_escape n)
clear_number_escape n =
    let a = n / 0x1000 % 16 in
    let b = n / 0x100 % 16 in
    let c = n / 16 % 16 in
    let d = n % 16 in
    clear_both (codes "\\u") (glyph a ∷ glyph b ∷ glyph c ∷ glyph d ∷ []) (clear_from (codes "\\u") refl) (no_control a (omega arith), (no_control b (omega arith), (no_control c (omega arith), (no_control d (omega arith), tt))))

clear_kind : (kind : Kind) (bytes : List ℕ) → IsClear (json_kind kind bytes)
clear_kind Shown bytes = clear_each json_escape clear_escape bytes
clear_kind Control bytes = clear_number_escape (scalar bytes)
clear_kind Stray bytes = clear_each replacement (λ b. clear_from (codes "\\ufffd") refl) bytes

clear_name : (bytes : List ℕ) → IsClear (json_name bytes)
clear_name bytes = clear_each json_part (λ part. clear_kind part.kind part.bytes) (parts bytes)

-- ---- values

clear_separated : (is_first : Bool) (members : List ℕ) → IsClear members → IsClear (separated is_first members)
clear_separated true [] h = tt
clear_separated true (comma ∷ members) h = h.1
clear_separated false members h = h

clear_flag : (is : Bool) → IsClear (flag_text is)
clear_flag true = clear_from (codes "true") refl
clear_flag false = clear_from (codes "false") refl

mutual
  clear_value : (v : Json) → IsClear (json_text v)
  clear_value (name bytes) = clear_quoted (json_name bytes) (clear_name bytes)
  clear_value (text characters) = clear_quoted (json_escaped characters) (clear_each json_escape clear_escape characters)
  clear_value (number n) = clear_number n
  clear_value (address a) = clear_quoted (address_text a) (clear_address a)
  clear_value (flag is) = clear_flag is
  clear_value (array vs) =
      let inside = separated true (items_text vs) in
      (omega arith, clear_both inside (codes "]") (clear_separated true (items_text vs) (clear_items vs)) (clear_from (codes "]") refl))
  clear_value (object ms) =
      let inside = separated true (members_text ms) in
      (omega arith, clear_both inside (codes "}") (clear_separated true (members_text ms) (clear_members ms)) (clear_from (codes "}") refl))

  clear_items : (vs : Items) → IsClear (items_text vs)
  clear_items no_items = tt
  clear_items (item v vs) = (omega arith, clear_both (json_text v) (items_text vs) (clear_value v) (clear_items vs))

  clear_members : (ms : Members) → IsClear (members_text ms)
  clear_members no_members = tt
  clear_members (member key v ms) =
      (omega arith, clear_both (quoted (json_name key)) (codes ":" ++ (json_text v ++ members_text ms)) (clear_quoted (json_name key) (clear_name key)) (omega arith, clear_both (json_text v) (members_text ms) (clear_value v) (clear_members ms)))

all_clear : (cs : List ℕ) → IsClear cs → All (λ c. 32 ≤ c) cs
all_clear [] h k d inside = absurd (omega (arith, inside))
all_clear (c ∷ cs) h zero d inside = h.0
all_clear (c ∷ cs) h (suc k) d inside = all_clear cs h.1 k d (omega (arith, inside))

pub one_line : (v : Json) → All (λ c. 32 ≤ c) (json_text v)
one_line v = all_clear (json_text v) (clear_value v)
