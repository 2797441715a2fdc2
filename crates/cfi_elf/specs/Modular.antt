-- Sums and differences of addresses, modulo 2 ^ 64.
use Rattle.std.specs.Prelude.{ℕ, ◌-◌, ◌+◌, ◌%◌, ◌^◌}

abbrev pub plus : ℕ → ℕ → ℕ
plus a b = (a + b) % 2 ^ 64

abbrev pub minus : ℕ → ℕ → ℕ
minus a b = (a + (2 ^ 64 - b)) % 2 ^ 64
