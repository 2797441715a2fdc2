-- A text that is put together part by part.
use Rattle.std.proofs.Common.{◌≡◌, ◌∙◌, ℕ, ◌+◌, ◌<◌, ◌≤◌, ◌==◌, Bool, true, false, List, [], ◌∷◌, ◌++◌, refl, sym, ap, subst, append-nil, append_assoc, length, drop, take, get_or, map, add-one, Result, Ok, Err, IfOk, OnOk}
use Rattle.std.specs.Prelude.{if◌then◌else◌}
use Rattle.std.specs.Fmt.{WritesInCalls}
use Rattle.std.specs.List.{FoldsTo, concat, flat_map}
use Rattle.std.proofs.Math.Seq.{drop-cons}
use Rattle.std.proofs.lemmas.Bool.{ne_eqb}
use Rattle.std.proofs.lemmas.List.{drop_all, take_rest}
use Rattle.cfi_text.specs.Names.{NamePart, first_part, parts}
use Rattle.cfi_text.specs.Texts.{Puts, contents, IsWhole}
use Rattle.cfi_text.specs.declared.text.Text.{Text}
use Rattle.cfi_text.proofs.NameLemmas.{made_first}

-- what isn't whole was refused a part
whole_before : (x y : Text) (a : List ℕ) → Puts a x y → IsWhole y → IsWhole x
whole_before x y a p whole = by x.is_short refl
  where
    by : (short : Bool) → x.is_short ≡ short → x.is_short ≡ false
    by true is = cc (p.remembers is, whole)
    by false is = is

-- one part after another
pub both : (x y z : Text) (a b : List ℕ) → Puts a x y → Puts b y z → Puts (a ++ b) x z
both x y z a b p q = record {
  remembers = λ short. q.remembers (p.remembers short);
  adds = λ whole. q.adds whole ∙ ap (λ (xs : List ℕ). xs ++ b) (p.adds (whole_before y z b q whole)) ∙ append_assoc (contents x) a b;
}

pub nothing : (x : Text) → Puts [] x x
nothing x = record { remembers = λ short. short; adds = λ whole. sym (append-nil (contents x)) }

pub same : (x y : Text) (a b : List ℕ) → a ≡ b → Puts a x y → Puts b x y
same x y a b is p = subst (λ (c : List ℕ). Puts c x y) is p

-- what is returned of a text that is whole
pub made : {V E : Type 0} (items : V → List ℕ) (r : Result V E) (empty text : Text) (part : List ℕ) → contents empty ≡ [] → Puts part empty text → OnOk r (IsWhole text) → IfOk r (λ bytes. items bytes ≡ contents text) → IfOk r (λ bytes. items bytes ≡ part)
made items (Ok bytes) empty text part none put whole is = is ∙ put.adds whole ∙ ap (λ (xs : List ℕ). xs ++ part) none
made items (Err e) empty text part none put whole is = tt

-- the other branch of a test for a number
pub not_this : (a b n : ℕ) → a ≡ b → (a ≡ n → ⊥) → (b == n) ≡ false
not_this a b n is h = ne_eqb b n (λ e. h (is ∙ e))

pub otherwise : (b : Bool) (x y : List ℕ) → b ≡ false → y ≡ (if b then x else y)
otherwise true x y h = cc h
otherwise false x y h = refl

-- ---- loops: what was put, of a text of which some is left

pub record IsPut (old new : Text) (left all : List ℕ) : Type 0 where
  pub front : List ℕ
  pub put : Puts front old new
  pub whole : front ++ left ≡ all

pub put_first : (x : Text) (all : List ℕ) → IsPut x x all all
put_first x all = record { front = []; put = nothing x; whole = refl }

pub put_more : (x y z : Text) (part left all : List ℕ) → IsPut x y (part ++ left) all → Puts part y z → IsPut x z left all
put_more x y z part left all is more = record {
  front = is.front ++ part;
  put = both x y z is.front part is.put more;
  whole = append_assoc is.front part left ∙ is.whole;
}

pub put_all : (x y : Text) (left all : List ℕ) → IsPut x y left all → left ≡ [] → Puts all x y
put_all x y left all is none = same x y is.front all (sym (append-nil is.front) ∙ ap (λ (xs : List ℕ). is.front ++ xs) (sym none) ∙ is.whole) is.put

-- over the bytes of a text, from the one with this index on
module _ (f : ℕ → List ℕ) (bytes : List ℕ) where
  pub byte_next : (i : ℕ) → i < length bytes → flat_map f (drop i bytes) ≡ f (get_or bytes i 0) ++ flat_map f (drop (i + 1) bytes)
  byte_next i h = rw (drop-cons bytes i 0 h, add-one) refl

  pub byte_none : (i : ℕ) → length bytes ≤ i → flat_map f (drop i bytes) ≡ []
  byte_none i h = rw drop_all refl

  pub byte_put : (x y z : Text) (i : ℕ) (part : List ℕ) → i < length bytes → part ≡ f (get_or bytes i 0) → IsPut x y (flat_map f (drop i bytes)) (flat_map f bytes) → Puts part y z → IsPut x z (flat_map f (drop (i + 1) bytes)) (flat_map f bytes)
  byte_put x y z i part h is given more =
      let next : IsPut x y (f (get_or bytes i 0) ++ flat_map f (drop (i + 1) bytes)) (flat_map f bytes) = subst (λ (left : List ℕ). IsPut x y left (flat_map f bytes)) (byte_next i h) given in
      put_more x y z (f (get_or bytes i 0)) (flat_map f (drop (i + 1) bytes)) (flat_map f bytes) next (same y z part (f (get_or bytes i 0)) is more)

-- over the parts of a name
module _ (f : NamePart → List ℕ) (name bytes : List ℕ) (part : NamePart) where
  pub part_put : (x y z : Text) (left : List ℕ) → 0 < length bytes → part ≡ first_part bytes → left ≡ drop (length part.bytes) bytes → IsPut x y (flat_map f (parts bytes)) (flat_map f (parts name)) → Puts (f part) y z → IsPut x z (flat_map f (parts left)) (flat_map f (parts name))
  part_put x y z left some first is given more =
      let rest = flat_map f (parts (drop (length part.bytes) bytes)) in
      let made : flat_map f (parts bytes) ≡ f part ++ rest = subst (λ (p : NamePart). flat_map f (parts bytes) ≡ f p ++ flat_map f (parts (drop (length p.bytes) bytes))) (sym first) (made_first f bytes some) in
      let next : IsPut x y (f part ++ rest) (flat_map f (parts name)) = subst (λ (text : List ℕ). IsPut x y text (flat_map f (parts name))) made given in
      subst (λ (text : List ℕ). IsPut x z (flat_map f (parts text)) (flat_map f (parts name))) (sym is) (put_more x y z (f part) rest (flat_map f (parts name)) next more)

-- ---- what a value displays, in calls of `write_str`

in_parts : (x : Text) (parts : List (List ℕ)) (y : Text) → FoldsTo (λ (old : Text) (text : List ℕ) (new : Text). Puts text old new) x parts y → Puts (concat parts) x y
in_parts x [] y is = subst (λ (z : Text). Puts [] x z) is (nothing x)
in_parts x (part ∷ parts) y is = both x is.0 y part (concat parts) is.1 (in_parts is.0 parts y is.2)

pub in_calls : (x : Text) (text : List ℕ) (y : Text) → WritesInCalls (λ (old : Text) (text : List ℕ) (new : Text). Puts text old new) x text y → Puts text x y
in_calls x text y is = same x y (concat is.parts) text is.whole (in_parts x is.parts y is.calls)
