-- Numbers, strings and members of JSON (RFC 8259).
--     json_number n      a number
--     json_escaped text      the characters of a string
--     json_name name      those of a name, which may have any bytes
--     separated is_first members      members that begin with a comma each, the first one without
--         it
use Rattle.std.specs.Prelude.{ℕ, ◌/◌, ◌%◌, ◌^◌, Bool, true, false, ◌==◌, List, [], ◌∷◌, ◌++◌}
use Rattle.std.specs.Prelude.{flat_map, nat_lt, codes, if◌then◌else◌}
use Rattle.std.specs.Fmt.{decimal, digit_glyph}
use Rattle.cfi_text.specs.Names.{NamePart, byte_digits, parts, scalar}
use Rattle.cfi_text.specs.declared.name_parts.Kind.{Kind}
use Rattle.cfi_text.specs.declared.name_parts.Kind.TheVariants.{Shown, Control, Stray}

-- ---- numbers and strings

-- every reader has the numbers below 2^53 (section 6); the digits of a greater one are a string
abbrev pub json_number : ℕ → List ℕ
json_number n = if nat_lt n (2 ^ 53) then decimal n else codes "\"" ++ decimal n ++ codes "\""

-- a quotation mark (34), a backslash (92) and a control character are escaped (section 7)
abbrev pub json_escape : ℕ → List ℕ
json_escape c =
    if c == 34 then codes "\\\""
    else if c == 92 then codes "\\\\"
    else if nat_lt c 0x20 then codes "\\u00" ++ byte_digits c
    else c ∷ []

abbrev pub json_escaped : List ℕ → List ℕ
json_escaped text = flat_map json_escape text

-- the escape of the character with this number, below 2^16
abbrev pub number_escape : ℕ → List ℕ
number_escape n =
    codes "\\u" ++ digit_glyph false (n / 0x1000 % 16) ∷ digit_glyph false (n / 0x100 % 16)
    ∷ digit_glyph false (n / 16 % 16) ∷ digit_glyph false (n % 16) ∷ []

-- a string is UTF-8 (section 8.1): U+FFFD, the replacement character, stands for each byte that
-- isn't, and each control character is escaped, also U+007F to U+009F
abbrev pub replacement : ℕ → List ℕ
replacement byte = codes "\\ufffd"

abbrev pub json_kind : Kind → List ℕ → List ℕ
json_kind Shown bytes = json_escaped bytes
json_kind Control bytes = number_escape (scalar bytes)
json_kind Stray bytes = flat_map replacement bytes

abbrev pub json_part : NamePart → List ℕ
json_part part = json_kind part.kind part.bytes

abbrev pub json_name : List ℕ → List ℕ
json_name name = flat_map json_part (parts name)

-- ---- members

-- members that begin with a comma each: no comma stands before the first of all
abbrev pub separated : Bool → List ℕ → List ℕ
separated true [] = []
separated true (comma ∷ members) = members
separated false members = members
