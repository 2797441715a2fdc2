-- Texts of objects and arrays that are printed part by part.
use Rattle.std.proofs.Common.{◌≡◌, ◌∙◌, ℕ, true, List, [], ◌∷◌, ◌++◌, codes, drop, get_or, map, refl, sym, ap, ap₂, subst, append_assoc}
use Rattle.std.specs.Prelude.{⊤}
use Rattle.std.specs.List.{All, flat_map}
use Rattle.std.proofs.lemmas.List.Elements.{All-map}
use Rattle.cfi_text.specs.JsonTexts.{json_name, separated}
use Rattle.cfi_frames.specs.Sequences.{AreOfAll}
use Rattle.cfi_json.specs.Json.{IsReadBack, Json, array, object, Items, Members, no_members, member, items_text, json_text, members_text, quoted}
use Rattle.cfi_json.specs.Printed.{items_of}

-- a string before a text
pub quoted_onto : (s x : List ℕ) → quoted s ++ x ≡ codes "\"" ++ (s ++ (codes "\"" ++ x))
quoted_onto s x = ap (λ (xs : List ℕ). 34 ∷ xs) (append_assoc s (34 ∷ []) x)

pub array_onto : (vs : Items) (x : List ℕ) → json_text (array vs) ++ x ≡ codes "[" ++ (separated true (items_text vs) ++ (codes "]" ++ x))
array_onto vs x = ap (λ (xs : List ℕ). 91 ∷ xs) (append_assoc (separated true (items_text vs)) (93 ∷ []) x)

-- ---- the members of an object, before a text

abbrev pub onto : Members → List ℕ → List ℕ
onto no_members x = x
onto (member key v ms) x = codes "," ++ (quoted (json_name key) ++ (codes ":" ++ (json_text v ++ onto ms x)))

onto_is : (ms : Members) (x : List ℕ) → members_text ms ++ x ≡ onto ms x
onto_is no_members x = refl
onto_is (member key v ms) x =
    ap (λ (xs : List ℕ). codes "," ++ xs) (append_assoc (quoted (json_name key)) (codes ":" ++ (json_text v ++ members_text ms)) x)
    ∙ ap (λ (xs : List ℕ). codes "," ++ (quoted (json_name key) ++ (codes ":" ++ xs))) (append_assoc (json_text v) (members_text ms) x ∙ ap (λ (xs : List ℕ). json_text v ++ xs) (onto_is ms x))

pub object_onto : (key : List ℕ) (v : Json) (ms : Members) (x : List ℕ) → json_text (object (member key v ms)) ++ x ≡ codes "{" ++ (quoted (json_name key) ++ (codes ":" ++ (json_text v ++ onto ms (codes "}" ++ x))))
object_onto key v ms x =
    let first : List ℕ = quoted (json_name key) ++ (codes ":" ++ (json_text v ++ members_text ms)) in
    ap (λ (xs : List ℕ). codes "{" ++ xs) (append_assoc first (codes "}") x
    ∙ append_assoc (quoted (json_name key)) (codes ":" ++ (json_text v ++ members_text ms)) (codes "}" ++ x)
    ∙ ap (λ (xs : List ℕ). quoted (json_name key) ++ (codes ":" ++ xs)) (append_assoc (json_text v) (members_text ms) (codes "}" ++ x) ∙ ap (λ (xs : List ℕ). json_text v ++ xs) (onto_is ms (codes "}" ++ x))))

-- by the text of its value, before what follows
pub member_onto : (key s y : List ℕ) (v : Json) (ms : Members) (x : List ℕ) → json_text v ≡ s → y ≡ onto ms x → codes "," ++ (quoted (json_name key) ++ (codes ":" ++ (s ++ y))) ≡ onto (member key v ms) x
member_onto key s y v ms x is more = ap₂ (λ (a b : List ℕ). codes "," ++ (quoted (json_name key) ++ (codes ":" ++ (a ++ b)))) (sym is) more

pub string_onto : (key s y : List ℕ) (v : Json) (ms : Members) (x : List ℕ) → json_text v ≡ quoted s → y ≡ onto ms x →
    codes "," ++ (quoted (json_name key) ++ (codes ":\"" ++ (s ++ (codes "\"" ++ y)))) ≡ onto (member key v ms) x
string_onto key s y v ms x is more = ap (λ (xs : List ℕ). codes "," ++ (quoted (json_name key) ++ (codes ":\"" ++ xs))) (sym (append_assoc s (codes "\"") y)) ∙ member_onto key (quoted s) y v ms x is more

-- no comma stands before the first member
pub object_is : (text key : List ℕ) (v : Json) (ms : Members) (x : List ℕ) → codes "," ++ text ≡ onto (member key v ms) (codes "}" ++ x) → codes "{" ++ text ≡ json_text (object (member key v ms)) ++ x
object_is text key v ms x h = ap (λ (xs : List ℕ). codes "{" ++ drop 1 xs) h ∙ sym (object_onto key v ms x)

-- ---- the values of an array

-- one for each of a list
pub each_text : {A : Type 0} (f : A → Json) (g : A → List ℕ) → ((x : A) → g x ≡ json_text (f x)) → (xs : List A) → flat_map (λ x. codes "," ++ g x) xs ≡ items_text (items_of (map f xs))
each_text f g same [] = refl
each_text f g same (x ∷ xs) = ap₂ (λ (a b : List ℕ). codes "," ++ (a ++ b)) (same x) (each_text f g same xs)

pub items_append : (vs ws : List Json) → items_text (items_of (vs ++ ws)) ≡ items_text (items_of vs) ++ items_text (items_of ws)
items_append [] ws = refl
items_append (v ∷ vs) ws =
    ap (λ (xs : List ℕ). codes "," ++ (json_text v ++ xs)) (items_append vs ws)
    ∙ ap (λ (xs : List ℕ). codes "," ++ xs) (sym (append_assoc (json_text v) (items_text (items_of vs)) (items_text (items_of ws))))

-- ---- lines

pub each_read_back : {A : Type 0} (f : A → Json) → ((x : A) → IsReadBack (f x)) → (xs : List A) → All IsReadBack (map f xs)
each_read_back f read xs = All-map IsReadBack f xs (λ k d inside. read (get_or xs k d))

abbrev pub Each : {A : Type 0} → (A → Type 0) → List A → Type 0
Each P [] = ⊤
Each P (x ∷ xs) = P x × Each P xs

pub each_both : {A : Type 0} (P : A → Type 0) (xs ys : List A) → Each P xs → Each P ys → Each P (xs ++ ys)
each_both P [] ys h k = k
each_both P (x ∷ xs) ys h k = (h.0, each_both P xs ys h.1 k)

module _ {X A : Type 0} (Is : X → List A → Type 0) (P : A → Type 0) (one : (x : X) (found : List A) → Is x found → Each P found) where
  pub each_of_all : (xs : List X) (found : List A) → AreOfAll Is xs found → Each P found
  each_of_all [] found none = subst (Each P) (sym none) tt
  each_of_all (x ∷ xs) found (first, others, is, more, whole) = subst (Each P) (sym whole) (each_both P first others (one x first is) (each_of_all xs others more))

module _ {A : Type 0} (f : A → Json) (Is : A → List ℕ → Type 0) (P : A → Type 0) (one : (x : A) (line : List ℕ) → P x → Is x line → line ≡ json_text (f x) ++ 10 ∷ []) where
  pub lines_are : (xs : List A) (characters : List ℕ) → Each P xs → AreOfAll Is xs characters → characters ≡ flat_map (λ v. json_text v ++ 10 ∷ []) (map f xs)
  lines_are [] characters h none = none
  lines_are (x ∷ xs) characters h (line, others, is, more, whole) = whole ∙ ap₂ (λ (a b : List ℕ). a ++ b) (one x line h.0 is) (lines_are xs others h.1 more)
