-- A value of JSON (RFC 8259), its text, and what a reader gets from that text.
--     json_text v      the text, with no space in it
--     value_read v      the value that the grammar of the library `json` reads from it
--     IsReadAs characters v      it does so from these characters
--     ReadsBack      it does so from the text of each value that nests no deeper than that grammar
--         allows
--     AreLinesOf characters values      a line for each value, which is read as the value
use Rattle.std.specs.Prelude.{◌≡◌, ◌≤◌, ◌^◌, ℕ, Bool, true, false, List, [], ◌∷◌, ◌++◌, Some, codes}
use Rattle.std.specs.Prelude.{flat_map, nat_lt, if◌then◌else◌}
use Rattle.std.specs.List.{All}
use Rattle.std.specs.Char.{encode_utf8}
use Rattle.std.specs.Fmt.{decimal}
use Rattle.bstr.specs.Utf8.{replacement}
use Rattle.json.specs.Json as read
use Rattle.json.specs.Tree.{depth}
use Rattle.cfi_text.specs.JsonTexts.{json_escaped, json_name, json_number, separated}
use Rattle.cfi_text.specs.Lines.{address_text}
use Rattle.cfi_text.specs.Names.{NamePart, parts}
use Rattle.cfi_text.specs.declared.name_parts.Kind.{Kind}
use Rattle.cfi_text.specs.declared.name_parts.Kind.TheVariants.{Shown, Control, Stray}

-- ---- values

-- a name has any bytes, and a text is of UTF-8; numbers and addresses are below 2^64
mutual
  pub data Json : Type 0 where
    name : List ℕ → Json
    text : List ℕ → Json
    number : ℕ → Json
    address : ℕ → Json
    flag : Bool → Json
    array : Items → Json
    object : Members → Json

  pub data Items : Type 0 where
    no_items : Items
    item : Json → Items → Items

  -- a member has a name, which may have any bytes, and a value
  pub data Members : Type 0 where
    no_members : Members
    member : List ℕ → Json → Members → Members

-- ---- the text

abbrev pub quoted : List ℕ → List ℕ
quoted characters = codes "\"" ++ (characters ++ codes "\"")

abbrev pub flag_text : Bool → List ℕ
flag_text true = codes "true"
flag_text false = codes "false"

abbrev pub comma_before : Bool → List ℕ
comma_before true = []
comma_before false = codes ","

abbrev mutual
  pub json_text : Json → List ℕ
  json_text (name bytes) = quoted (json_name bytes)
  json_text (text characters) = quoted (json_escaped characters)
  json_text (number n) = json_number n
  json_text (address a) = quoted (address_text a)
  json_text (flag is) = flag_text is
  json_text (array values) = codes "[" ++ (separated true (items_text values) ++ codes "]")
  json_text (object members) = codes "{" ++ (separated true (members_text members) ++ codes "}")

  -- after a comma each
  pub items_text : Items → List ℕ
  items_text no_items = []
  items_text (item value values) = codes "," ++ (json_text value ++ items_text values)

  pub members_text : Members → List ℕ
  members_text no_members = []
  members_text (member key value members) =
      codes "," ++ (quoted (json_name key) ++ (codes ":" ++ (json_text value
      ++ members_text members)))

-- ---- what is read from it

-- a character of UTF-8 is read as it is, and U+FFFD for each byte that is in none
abbrev pub kind_read : Kind → List ℕ → List ℕ
kind_read Shown bytes = bytes
kind_read Control bytes = bytes
kind_read Stray bytes = flat_map (λ b. encode_utf8 replacement) bytes

abbrev pub part_read : NamePart → List ℕ
part_read part = kind_read part.kind part.bytes

abbrev pub name_read : List ℕ → List ℕ
name_read bytes = flat_map part_read (parts bytes)

-- every reader has the numbers below 2^53; the digits of a greater one are a string
abbrev pub number_read : ℕ → read.Json
number_read n =
    if nat_lt n (2 ^ 53) then read.number (decimal n) else read.string (decimal n)

abbrev mutual
  pub value_read : Json → read.Json
  value_read (name bytes) = read.string (name_read bytes)
  value_read (text characters) = read.string characters
  value_read (number n) = number_read n
  value_read (address a) = read.string (address_text a)
  value_read (flag is) = read.boolean is
  value_read (array values) = read.array (items_read values)
  value_read (object members) = read.object (members_read members)

  pub items_read : Items → read.Items
  items_read no_items = read.no_items
  items_read (item value values) = read.item (value_read value) (items_read values)

  pub members_read : Members → read.Members
  members_read no_members = read.no_members
  members_read (member key value members) =
      read.member (name_read key) (value_read value) (members_read members)

-- ---- the law

abbrev pub IsReadAs : List ℕ → Json → Type 0
IsReadAs characters v = read.document characters ≡ Some (value_read v)

-- the text is read as the value, also where it is a line; it is one line, as it has no control
-- character
pub record IsReadBack (v : Json) : Type 0 where
  pub alone : IsReadAs (json_text v) v
  pub on_line : IsReadAs (json_text v ++ 10 ∷ []) v
  pub one_line : All (λ c. 32 ≤ c) (json_text v)

-- arrays and objects may nest as deep as the grammar allows, 128 levels
abbrev pub NestsWithin : Json → Type 0
NestsWithin v = depth (value_read v) ≤ read.max_depth

abbrev pub ReadsBack : Type 0
ReadsBack = (v : Json) → NestsWithin v → IsReadBack v

-- ---- lines

pub record AreLinesOf (characters : List ℕ) (values : List Json) : Type 0 where
  pub are : characters ≡ flat_map (λ v. json_text v ++ 10 ∷ []) values
  pub each : All IsReadBack values
