-- What a window has room for.
use Rattle.std.proofs.Common.{◌≡◌, ◌≤◌, ℕ, true, nat_le, arith}
use Rattle.std.proofs.lemmas.Bool.Decides.{nat_tests}

pub has_left : (count len left : ℕ) → len ≡ left → count ≤ len → nat_le count left ≡ true
has_left count len left is within = grind (arith, nat_tests)
