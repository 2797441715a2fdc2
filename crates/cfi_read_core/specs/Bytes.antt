-- Parts of a list of bytes.
--     part bytes offset size      size bytes from an offset on, if there are so many
--     before_zero bytes      the bytes before the first zero, if there is one
use Rattle.std.specs.Prelude.{ℕ, ◌+◌, List, length, take, Option, Some, None, option_map, position}
use Rattle.std.specs.Prelude.{nat_le, ◌==◌, slice_range, if◌then◌else◌}

abbrev pub part : List ℕ → ℕ → ℕ → Option (List ℕ)
part bytes offset size =
    if nat_le (offset + size) (length bytes)
    then Some (slice_range bytes offset (offset + size))
    else None

abbrev pub before_zero : List ℕ → Option (List ℕ)
before_zero bytes = option_map (λ n. take n bytes) (position (λ x. x == 0) bytes)
