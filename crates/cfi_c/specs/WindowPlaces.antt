-- At how many places of a window of memory, from the first on, there are eight bytes. None of these
-- places has an address that is too large.
use Rattle.std.specs.Prelude.{ℕ, ◌+◌, ◌-◌, ◌^◌, ◌≤◌}

abbrev pub ArePlacesIn : ℕ → ℕ → ℕ → Type 0
ArePlacesIn count base places = (places ≤ count - 7) × (base + places ≤ 2 ^ 64)
