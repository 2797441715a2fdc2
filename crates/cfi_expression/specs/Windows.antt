-- Memory of which the bytes from an address on are there.
use Rattle.std.specs.Prelude.{ℕ, ◌-◌, nat_lt, Option, None, if◌then◌else◌}
use Rattle.std.specs.Result.{result_ok}
use Rattle.cfi_read_core.specs.ReadFunctions.{Read, Position, ◌>>=◌, ◌>>◌, offset, skip}
use Rattle.cfi_read_core.specs.Addresses.{address}

-- the number of `size` bytes at a distance
abbrev pub at_distance : ℕ → ℕ → Read ℕ
at_distance distance size = do
  n ← offset distance
  skip n
  address size

-- of a window of memory whose first byte has the address `base`
abbrev pub number_in : Position → ℕ → ℕ → ℕ → Option ℕ
number_in window base a size =
    if nat_lt a base then None
    else result_ok (at_distance (a - base) size window.source window.place).value
