-- A name part by part.
use Rattle.std.proofs.Common.{◌≡◌, ◌∙◌, ℕ, ◌-◌, ◌<◌, ◌≤◌, ◌==◌, ◌&&◌, Bool, Some, true, false, List, [], ◌∷◌, ◌++◌, length, take, drop, nat_le, nat_lt, refl, sym, ap, subst, zero, suc, arith}
use Rattle.std.specs.List.{flat_map, list_all}
use Rattle.std.proofs.lemmas.List.{length-take, length-drop}
use Rattle.std.proofs.lemmas.Bool.{ne_eqb, and_parts, le-leb, lt-ltb, le-ltb, leb-true, lt-leb, ltb-true}
use Rattle.bstr.specs.Utf8.{decoded}
use Rattle.bstr.proofs.lemmas.PieceLemmas.{piece-bounds}
use Rattle.cfi_text.specs.declared.name_parts.Kind.TheVariants.{Shown}
use Rattle.cfi_text.specs.Names.{NamePart, first_part, is_printable_ascii, kind_of, parts, parts_after, shown, shown_part}

-- ---- the first part, and the others

pub rest_behind : (k : ℕ) (bytes : List ℕ) → parts_after k bytes ≡ parts (drop k bytes)
rest_behind zero bytes = refl
rest_behind (suc k) [] = refl
rest_behind (suc k) (b ∷ bytes) = rest_behind k bytes

-- it has a byte, and no more than there are
pub size_within : (bytes : List ℕ) → 0 < length bytes → (decoded bytes).size ≤ length bytes
size_within bytes some = (piece-bounds bytes some).2

pub taken : (n : ℕ) (bytes : List ℕ) → n ≡ (decoded bytes).size → 0 < length bytes → n ≡ length (take n bytes)
taken n bytes is some =
    let within : n ≤ length bytes = subst (λ (m : ℕ). m ≤ length bytes) (sym is) (size_within bytes some) in
    rw length-take (omega (arith, within))

some_taken : (n : ℕ) (bytes : List ℕ) → 1 ≤ n → 0 < length bytes → 0 < length (take n bytes)
some_taken n bytes one some = rw length-take (omega (arith, one, some))

pub first_some : (b : ℕ) (bytes : List ℕ) → 0 < length (first_part (b ∷ bytes)).bytes
first_some b bytes = some_taken (decoded (b ∷ bytes)).size (b ∷ bytes) (piece-bounds (b ∷ bytes) (omega arith)).0 (omega arith)

few_taken : (n : ℕ) (bytes : List ℕ) → length (take n bytes) ≤ length bytes
few_taken n bytes = rw length-take (omega arith)

pub first_within : (bytes : List ℕ) → length (first_part bytes).bytes ≤ length bytes
first_within bytes = few_taken (decoded bytes).size bytes

pub part_within : (bytes : List ℕ) (part : NamePart) → part ≡ first_part bytes → length part.bytes ≤ length bytes
part_within bytes part is = subst (λ (p : NamePart). length p.bytes ≤ length bytes) (sym is) (first_within bytes)

pub left_smaller : (bytes : List ℕ) (part : NamePart) (left : List ℕ) → 0 < length bytes → part ≡ first_part bytes → left ≡ drop (length part.bytes) bytes → length left < length bytes
left_smaller [] part left h is rest = absurd (omega (arith, h))
left_smaller (b ∷ bytes) part left h is rest =
    let some : 0 < length part.bytes = subst (λ (p : NamePart). 0 < length p.bytes) (sym is) (first_some b bytes) in
    rw (rest, length-drop) (omega (arith, some))

drop_one : (k b : ℕ) (bytes : List ℕ) → 0 < k → drop (k - 1) bytes ≡ drop k (b ∷ bytes)
drop_one zero b bytes h = absurd (omega (arith, h))
drop_one (suc k) b bytes h = ap (λ (n : ℕ). drop n bytes) (omega arith)

pub parts_first : (bytes : List ℕ) → 0 < length bytes → parts bytes ≡ first_part bytes ∷ parts (drop (length (first_part bytes).bytes) bytes)
parts_first [] h = absurd (omega (arith, h))
parts_first (b ∷ bytes) h =
    let k = length (first_part (b ∷ bytes)).bytes in
    ap (λ (more : List NamePart). first_part (b ∷ bytes) ∷ more) (rest_behind (k - 1) bytes ∙ ap parts (drop_one k b bytes (first_some b bytes)))

pub some_left : (bytes : List ℕ) → (length bytes == 0) ≡ false → 0 < length bytes
some_left [] h = cc h
some_left (b ∷ bytes) h = omega arith

-- what is made of each part, of the first and of the others
pub made_first : (f : NamePart → List ℕ) (bytes : List ℕ) → 0 < length bytes → flat_map f (parts bytes) ≡ f (first_part bytes) ++ flat_map f (parts (drop (length (first_part bytes).bytes) bytes))
made_first f bytes h = ap (flat_map f) (parts_first bytes h)

-- ---- most names

plain_decoded : (b : ℕ) (bytes : List ℕ) → is_printable_ascii b ≡ true → decoded (b ∷ bytes) ≡ record { char = Some b; size = 1 }
plain_decoded b bytes h =
    let below : b < 0x80 = omega (arith, ltb-true b 0x7f (and_parts (nat_le 0x20 b) (nat_lt b 0x7f) h).1) in
    rw (ne_eqb (length (b ∷ bytes)) 0 (λ none. omega (arith, none)), lt-ltb b 0x80 below) refl

plain_kind : (b : ℕ) → is_printable_ascii b ≡ true → kind_of (Some b) ≡ Shown
plain_kind b h =
    let both = and_parts (nat_le 0x20 b) (nat_lt b 0x7f) h in
    let above : 0x20 ≤ b = leb-true 0x20 b both.0 in
    let below : b < 0x7f = ltb-true b 0x7f both.1 in
    rw (le-ltb b 0x20 above, lt-leb 0x7f b below) refl

plain_part : (b : ℕ) (bytes : List ℕ) → is_printable_ascii b ≡ true → first_part (b ∷ bytes) ≡ record { kind = Shown; bytes = b ∷ [] }
plain_part b bytes h = rw (plain_decoded b bytes h, plain_kind b h) refl

pub parts_plain : (b : ℕ) (bytes : List ℕ) → is_printable_ascii b ≡ true → parts (b ∷ bytes) ≡ record { kind = Shown; bytes = b ∷ [] } ∷ parts bytes
parts_plain b bytes h =
    subst (λ (part : NamePart). parts (b ∷ bytes) ≡ part ∷ parts (drop (length part.bytes) (b ∷ bytes))) (plain_part b bytes h) (parts_first (b ∷ bytes) (omega arith))

pub all_shown : (name : List ℕ) → list_all is_printable_ascii name ≡ true → shown name ≡ name
all_shown [] plain = refl
all_shown (c ∷ cs) plain = by (is_printable_ascii c) refl plain (all_shown cs)
  where
    by : (b : Bool) → is_printable_ascii c ≡ b → (b && list_all is_printable_ascii cs) ≡ true → (list_all is_printable_ascii cs ≡ true → shown cs ≡ cs) → shown (c ∷ cs) ≡ c ∷ cs
    by true is rest same = ap (flat_map shown_part) (parts_plain c cs is) ∙ ap (λ (xs : List ℕ). c ∷ xs) (same rest)
    by false is none same = cc none
