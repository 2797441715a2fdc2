-- What stands for a name, by where it is printed.
--     escaped escaping name      what stands for a name
use Rattle.std.specs.Prelude.{ℕ, ◌==◌, ◌||◌, Bool, List, [], ◌∷◌, codes, if◌then◌else◌}
use Rattle.std.specs.List.{flat_map}
use Rattle.cfi_text.specs.JsonTexts.{json_escape, json_part}
use Rattle.cfi_text.specs.Names.{NamePart, byte_escape, parts, scalar, shown_kind, shown_part}
use Rattle.cfi_text.specs.declared.name_parts.Kind.{Kind}
use Rattle.cfi_text.specs.declared.name_parts.Kind.TheVariants.{Shown}
use Rattle.cfi_text.specs.declared.escapes.Escaping.{Escaping}
use Rattle.cfi_text.specs.declared.escapes.Escaping.TheVariants.{Text, Json, Folded, Xml, Plain}

-- ---- the bytes of a character that is shown

-- within a folded stack a semicolon (59), which stands between names, is a colon, and a space (32)
-- the byte that is given
abbrev pub harmless : ℕ → ℕ → ℕ
harmless space c = if c == 59 then 58 else if c == 32 then space else c

-- the entities of XML 1.0 (section 4.6) for & < > and "
abbrev pub entity : ℕ → List ℕ
entity c =
    if c == 38 then codes "&amp;"
    else if c == 60 then codes "&lt;"
    else if c == 62 then codes "&gt;"
    else if c == 34 then codes "&quot;"
    else c ∷ []

-- in a text of folded stacks NUL, which comes before every other byte and is escaped in names,
-- stands for a semicolon
abbrev pub shown_byte : Escaping → ℕ → List ℕ
shown_byte Text = λ c. c ∷ []
shown_byte Json = json_escape
shown_byte (Folded space) = λ c. harmless space c ∷ []
shown_byte Xml = entity
shown_byte Plain = λ c. (if c == 59 then 0 else c) ∷ []

-- ---- a part of a name

abbrev pub with_bytes : Escaping → Kind → List ℕ → List ℕ
with_bytes escaping Shown bytes = flat_map (shown_byte escaping) bytes
with_bytes escaping kind bytes = shown_kind kind bytes

-- an XML document has no U+FFFE and no U+FFFF (XML 1.0, section 2.2)
abbrev pub is_outside_xml : ℕ → Bool
is_outside_xml c = c == 0xfffe || c == 0xffff

abbrev pub drawn : Escaping → NamePart → List ℕ
drawn escaping part =
    if is_outside_xml (scalar part.bytes)
    then flat_map byte_escape part.bytes
    else with_bytes escaping part.kind part.bytes

-- a line feed (10) ends a line of a text of folded stacks
abbrev pub escaped_part : Escaping → NamePart → List ℕ
escaped_part Text part = shown_part part
escaped_part Json part = json_part part
escaped_part (Folded space) part = with_bytes (Folded space) part.kind part.bytes
escaped_part Xml part = drawn Xml part
escaped_part Plain part =
    if scalar part.bytes == 10 then 10 ∷ []
    else drawn Plain part

-- ---- a name

abbrev pub escaped : Escaping → List ℕ → List ℕ
escaped escaping name = flat_map (escaped_part escaping) (parts name)
