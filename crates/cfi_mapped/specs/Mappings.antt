-- What is mapped where in a process.
--     MappedPlace      a file of the profile by its number, none for memory that is no file's, and
--         a place in it
--     has_byte_at mapped a      whether the byte at an address belongs to it
--     mapped_place mapped a      the place of that byte, counted modulo 2 ^ 64
--     place_at_address list a      the same of the first mapping that has the byte
--     AreMappedInOrder low list      each has a byte, and begins at or above the end of the one
--         before it, the first at or above `low`
--     part_below limit mapped, part_from limit mapped      what of it is below an address, and what
--         is at the address or above it
--     mapped_over new list      what is mapped after a new mapping: what of the old ones is below
--         it, it, and what of them is above it
--     IsMappedOver new before after      each byte of the new mapping belongs to it, each other one
--         to what it belonged to
use Rattle.std.specs.Prelude.{◌≡◌, ℕ, ◌+◌, ◌-◌, ◌%◌, ◌^◌, ◌<◌, ◌≤◌, ◌&&◌, ⊤, Bool, List, [], ◌∷◌}
use Rattle.std.specs.Prelude.{◌++◌, Option, Some, None, nat_le, nat_lt, if◌then◌else◌}
use Rattle.std.specs.List.{filter_map}
use Rattle.cfi_mapped.specs.declared.mappings.MappedCode.{MappedCode}

pub record MappedPlace : Type 0 where
  pub object : Option ℕ
  pub offset : ℕ

abbrev pub has_byte_at : MappedCode → ℕ → Bool
has_byte_at mapped a = nat_le mapped.start a && nat_lt a mapped.end

abbrev pub mapped_place : MappedCode → ℕ → MappedPlace
mapped_place mapped a =
    record { object = mapped.object; offset = (mapped.offset + (a - mapped.start)) % 2 ^ 64 }

abbrev pub place_at_address : List MappedCode → ℕ → Option MappedPlace
place_at_address [] a = None
place_at_address (mapped ∷ list) a =
    if has_byte_at mapped a then Some (mapped_place mapped a) else place_at_address list a

abbrev pub AreMappedInOrder : ℕ → List MappedCode → Type 0
AreMappedInOrder low [] = ⊤
AreMappedInOrder low (mapped ∷ list) =
    (low ≤ mapped.start) × (mapped.start < mapped.end) × AreMappedInOrder mapped.end list

-- ---- a new mapping

abbrev pub part_below : ℕ → MappedCode → Option MappedCode
part_below limit mapped =
    if nat_le limit mapped.start then None
    else if nat_le mapped.end limit then Some mapped
    else Some (record mapped { end = limit })

abbrev pub part_from : ℕ → MappedCode → Option MappedCode
part_from limit mapped =
    if nat_le mapped.end limit then None
    else if nat_le limit mapped.start then Some mapped
    else Some (record mapped { start = limit; offset = (mapped_place mapped limit).offset })

-- one without bytes changes nothing
abbrev pub mapped_over : MappedCode → List MappedCode → List MappedCode
mapped_over new list =
    if nat_lt new.start new.end
    then filter_map (part_below new.start) list ++ new ∷ filter_map (part_from new.end) list
    else list

abbrev pub IsMappedOver : MappedCode → List MappedCode → List MappedCode → Type 0
IsMappedOver new before after =
    (a : ℕ) →
    place_at_address after a
    ≡ (if has_byte_at new a then Some (mapped_place new a) else place_at_address before a)
