-- Bytes, and records of them whose fields have names.
--     first_bytes n bytes      the first n bytes, if there are so many
--     until_zero bytes      the bytes before the first zero, or all where there is none
--     number_at big bytes offset width      the number that so many bytes from an offset on are
--     field big bytes fields name      the number in the field of this name
--     entries size bytes      the records of one size in a table, as many as fit it whole
use Rattle.std.specs.Prelude.{ℕ, ◌+◌, ◌*◌, ◌/◌, Bool, List, length, take, map, find, Option, Some}
use Rattle.std.specs.Prelude.{None, nat_le, bytes_eq, slice_range, sum_by, if◌then◌else◌}
use Rattle.std.specs.Int.{Width, byte_len}
use Rattle.std.specs.List.{range_with_len}
pub use Rattle.cfi_read_core.specs.Bytes.{before_zero, part}
use Rattle.cfi_read_core.specs.Numbers.{number_of}
use Rattle.cfi_elf.specs.Options.{or_this}

abbrev pub first_bytes : ℕ → List ℕ → Option (List ℕ)
first_bytes n bytes = if nat_le n (length bytes) then Some (take n bytes) else None

abbrev pub until_zero : List ℕ → List ℕ
until_zero bytes = or_this bytes (before_zero bytes)

-- ---- records

-- Where a field is in its record: how many bytes are before it, and how many it has.
pub record Field : Type 0 where
  pub name : List ℕ
  pub offset : ℕ
  pub width : Width

abbrev pub number_at : Bool → List ℕ → ℕ → Width → ℕ
number_at big bytes offset width =
    number_of width big (slice_range bytes offset (offset + byte_len width))

abbrev pub number_of_field : Bool → List ℕ → Option Field → ℕ
number_of_field big bytes None = 0
number_of_field big bytes (Some f) = number_at big bytes f.offset f.width

abbrev pub field : Bool → List ℕ → List Field → List ℕ → ℕ
field big bytes fields name = number_of_field big bytes (find (λ f. bytes_eq f.name name) fields)

-- the bytes of a record, which has nothing between its fields
abbrev pub record_size : List Field → ℕ
record_size fields = sum_by (λ f. byte_len f.width) fields

-- ---- tables

abbrev pub entry_at : ℕ → List ℕ → ℕ → List ℕ
entry_at size bytes index = slice_range bytes (index * size) (index * size + size)

abbrev pub entries : ℕ → List ℕ → List (List ℕ)
entries size bytes = map (entry_at size bytes) (range_with_len 0 (length bytes / size))
