-- The bytes of the parts of a file.
--     file_parts bytes      those of a file of these bytes
--     parts_around before end after      those of a file of which these are the first bytes, and
--         those from a place on
use Rattle.std.specs.Option.{option_or}
use Rattle.std.specs.Prelude.{ℕ, ◌-◌, List, Option, Some, None, nat_lt, if◌then◌else◌}
use Rattle.cfi_perf.specs.declared.file_bytes.FileBytes.{FileBytes}
use Rattle.cfi_perf.specs.declared.file_header.FileSection.{FileSection}
use Rattle.cfi_perf.specs.ByteReads.{part}

-- the bytes at a place, if there are so many
abbrev pub SectionBytes : Type 0
SectionBytes = FileSection → Option (List ℕ)

abbrev pub file_parts : List ℕ → SectionBytes
file_parts bytes place = part bytes place.offset place.size

abbrev pub part_after : ℕ → List ℕ → SectionBytes
part_after end after place =
    if nat_lt place.offset end then None else part after (place.offset - end) place.size

abbrev pub parts_around : List ℕ → ℕ → List ℕ → SectionBytes
parts_around before end after place =
    option_or (file_parts before place) (part_after end after place)

-- those that the code has at hand
abbrev pub parts_at_hand : FileBytes → SectionBytes
parts_at_hand file = parts_around file.before.now file.end file.after.now
