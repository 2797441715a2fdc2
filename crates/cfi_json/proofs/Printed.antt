-- Values of an array and members of an object that are printed one after another.
use Rattle.std.proofs.Common.{◌≡◌, ◌∙◌, ℕ, ◌+◌, ◌<◌, Bool, true, false, List, [], ◌∷◌, ◌++◌, codes, refl, sym, ap, subst, append_assoc, length, drop, get_or}
use Rattle.std.proofs.lemmas.List.{drop_more}
use Rattle.std.specs.Borrow.{Bor}
use Rattle.cfi_text.specs.JsonTexts.{json_name, separated}
use Rattle.cfi_text.specs.Texts.{Puts}
use Rattle.cfi_text.specs.declared.text.Text.{Text}
use Rattle.cfi_text.proofs.TextLemmas.{IsPut, both, put_more}
use Rattle.cfi_json.specs.Json.{Json, Items, item, Members, member, comma_before, items_text, json_text, members_text, quoted}
use Rattle.cfi_json.specs.Printed.{items_view, members_view, value_view}
use Rattle.cfi_json.specs.declared.value.Value.{Value}

-- what is left of an array after some of its values
abbrev pub items_left : Bool → List Value → List ℕ
items_left is_first values = separated is_first (items_text (items_view values))

abbrev pub members_left : Bool → List (Bor (List ℕ) × Value) → List ℕ
members_left is_first members = separated is_first (members_text (members_view members))

pub none_left : (is_first : Bool) → separated is_first [] ≡ []
none_left true = refl
none_left false = refl

first_item : (is_first : Bool) (v : Json) (vs : Items) → separated is_first (items_text (item v vs)) ≡ (comma_before is_first ++ json_text v) ++ items_text vs
first_item true v vs = refl
first_item false v vs = refl

abbrev member_text : List ℕ → Json → List ℕ
member_text key v = quoted (json_name key) ++ (codes ":" ++ json_text v)

first_member : (is_first : Bool) (key : List ℕ) (v : Json) (ms : Members) → separated is_first (members_text (member key v ms)) ≡ (comma_before is_first ++ member_text key v) ++ members_text ms
first_member true key v ms = sym (append_assoc (quoted (json_name key)) (codes ":" ++ json_text v) (members_text ms))
first_member false key v ms = ap (λ (xs : List ℕ). codes "," ++ xs) (sym (append_assoc (quoted (json_name key)) (codes ":" ++ json_text v) (members_text ms)))

-- from the value with this index on
module _ (values : List Value) (all : List ℕ) (i : ℕ) (v : Value) (here : drop i values ≡ v ∷ drop (i + 1) values) where
  pub item_put : (w x y z : Text) (is_first : Bool) → IsPut w x (items_left is_first (drop i values)) all → Puts (comma_before is_first) x y → Puts (json_text (value_view v)) y z → IsPut w z (items_left false (drop (i + 1) values)) all
  item_put w x y z is_first given comma value =
      let rest = items_text (items_view (drop (i + 1) values)) in
      let split : items_left is_first (drop i values) ≡ (comma_before is_first ++ json_text (value_view v)) ++ rest = ap (items_left is_first) here ∙ first_item is_first (value_view v) (items_view (drop (i + 1) values)) in
      put_more w x z (comma_before is_first ++ json_text (value_view v)) rest all (subst (λ (left : List ℕ). IsPut w x left all) split given)
      (both x y z (comma_before is_first) (json_text (value_view v)) comma value)

module _ (members : List (Bor (List ℕ) × Value)) (all : List ℕ) (i : ℕ) (d : Bor (List ℕ) × Value) (within : i < length members) where
  abbrev m : Bor (List ℕ) × Value
  m = get_or members i d

  pub member_put : (v w x y z u : Text) (is_first : Bool) → IsPut u v (members_left is_first (drop i members)) all → Puts (comma_before is_first) v w → Puts (quoted (json_name m.0.now)) w x → Puts (codes ":") x y → Puts (json_text (value_view m.1)) y z →
      IsPut u z (members_left false (drop (i + 1) members)) all
  member_put v w x y z u is_first given comma key colon value =
      let rest = members_text (members_view (drop (i + 1) members)) in
      let one = member_text m.0.now (value_view m.1) in
      let split : members_left is_first (drop i members) ≡ (comma_before is_first ++ one) ++ rest = ap (members_left is_first) (drop_more members i d within) ∙ first_member is_first m.0.now (value_view m.1) (members_view (drop (i + 1) members)) in
      put_more u v z (comma_before is_first ++ one) rest all (subst (λ (left : List ℕ). IsPut u v left all) split given)
      (both v w z (comma_before is_first) one comma (both w x z (quoted (json_name m.0.now)) (codes ":" ++ json_text (value_view m.1)) key (both x y z (codes ":") (json_text (value_view m.1)) colon value)))
