-- The value that a `Value` stands for.
use Rattle.std.specs.Prelude.{ℕ, List, [], ◌∷◌, map}
use Rattle.std.specs.Borrow.{Bor}
use Rattle.cfi_json.specs.Json.{Json, name, text, number, address, flag, array, object}
use Rattle.cfi_json.specs.Json.{Items, no_items, item, Members, no_members, member}
use Rattle.cfi_json.specs.declared.value.Value.{Value, fold-Value}
use Rattle.cfi_json.specs.declared.value.Value.TheOpen.{Value-F}

abbrev pub items_of : List Json → Items
items_of [] = no_items
items_of (v ∷ vs) = item v (items_of vs)

abbrev pub members_of : List (Bor (List ℕ) × Json) → Members
members_of [] = no_members
members_of (m ∷ ms) = member m.0.now m.1 (members_of ms)

-- one level, with each value inside already seen
abbrev pub view_step : Value-F Json → Json
view_step (Value-F.Name bytes) = name bytes.now
view_step (Value-F.Text characters) = text characters.now
view_step (Value-F.Number n) = number n
view_step (Value-F.Address a) = address a
view_step (Value-F.Flag is) = flag is
view_step (Value-F.Array values) = array (items_of values.now)
view_step (Value-F.Object members) = object (members_of members.now)

abbrev pub value_view : Value → Json
value_view = fold-Value Json view_step

abbrev pub items_view : List Value → Items
items_view values = items_of (map value_view values)

abbrev pub members_view : List (Bor (List ℕ) × Value) → Members
members_view members = members_of (map (λ m. (m.0, value_view m.1)) members)
