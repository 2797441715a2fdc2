-- Names as they are printed: characters of UTF-8 as they are, but for control characters, which are
-- escaped, as is each byte that isn't UTF-8. So no name moves a terminal's cursor or breaks a line.
--     parts name      the characters of a name, by Table 3-7 of The Unicode Standard, and its bytes
--         that are none
--     shown name      what is printed of it in a text
use Rattle.std.specs.Prelude.{ℕ, ◌-◌, ◌/◌, ◌%◌, ◌&&◌, ◌||◌, Bool, List, [], ◌∷◌, ◌++◌}
use Rattle.std.specs.Prelude.{Option, Some, None, codes, false, flat_map, length, nat_le, nat_lt}
use Rattle.std.specs.Prelude.{suc, take, zero, if◌then◌else◌}
use Rattle.std.specs.Fmt.{digit_glyph}
use Rattle.bstr.specs.Utf8.{decoded, or_replacement}
use Rattle.cfi_text.specs.declared.name_parts.Kind.{Kind}
use Rattle.cfi_text.specs.declared.name_parts.Kind.TheVariants.{Shown, Control, Stray}
use Rattle.cfi_text.specs.declared.name_parts.Part.{Part as PartOfCode}

-- ---- the parts of a name

-- A character, or bytes that are none: as many as could begin one (Table 3-7).
pub record NamePart : Type 0 where
  pub kind : Kind
  pub bytes : List ℕ

abbrev pub name_part_view : PartOfCode → NamePart
name_part_view part = record { kind = part.kind; bytes = part.bytes.now }

-- the control characters (general category Cc): U+0000 to U+001F, U+007F to U+009F
abbrev pub is_control : ℕ → Bool
is_control c = nat_lt c 0x20 || (nat_le 0x7f c && nat_le c 0x9f)

abbrev pub kind_of : Option ℕ → Kind
kind_of None = Stray
kind_of (Some c) = if is_control c then Control else Shown

-- the number of the character that these bytes are
abbrev pub scalar : List ℕ → ℕ
scalar character = or_replacement (decoded character).char

abbrev pub first_part : List ℕ → NamePart
first_part bytes = record {
  kind = kind_of (decoded bytes).char;
  bytes = take (decoded bytes).size bytes;
}

-- those after so many bytes, which are the rest of a part
abbrev pub parts_after : ℕ → List ℕ → List NamePart
parts_after k [] = []
parts_after zero (b ∷ bytes) =
    first_part (b ∷ bytes)
    ∷ parts_after (length (first_part (b ∷ bytes)).bytes - 1) bytes
parts_after (suc k) (b ∷ bytes) = parts_after k bytes

abbrev pub parts : List ℕ → List NamePart
parts name = parts_after 0 name

-- ---- what is printed

-- two lower-case hexadecimal digits
abbrev pub byte_digits : ℕ → List ℕ
byte_digits b = digit_glyph false (b / 16) ∷ digit_glyph false (b % 16) ∷ []

abbrev pub byte_escape : ℕ → List ℕ
byte_escape b = codes "\\x" ++ byte_digits b

-- of a control character each byte, and a stray one
abbrev pub shown_kind : Kind → List ℕ → List ℕ
shown_kind Shown bytes = bytes
shown_kind Control bytes = flat_map byte_escape bytes
shown_kind Stray bytes = flat_map byte_escape bytes

abbrev pub shown_part : NamePart → List ℕ
shown_part part = shown_kind part.kind part.bytes

abbrev pub shown : List ℕ → List ℕ
shown name = flat_map shown_part (parts name)

-- ---- most names

-- printable ASCII, which is shown as it is
abbrev pub is_printable_ascii : ℕ → Bool
is_printable_ascii b = nat_le 0x20 b && nat_lt b 0x7f
