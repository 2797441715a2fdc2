-- Sums of addresses, by the size of an address, over plain variables.
use Rattle.std.proofs.Common.{◌≡◌, ◌%◌, ℕ, arith}

-- the low byte of a sum that wrapped at eight bytes
pub low_byte : (n : ℕ) → n % 18446744073709551616 % 256 ≡ n % 256
low_byte n = omega arith
