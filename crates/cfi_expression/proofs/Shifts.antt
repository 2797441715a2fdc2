-- A word that is shifted by all its places or more is zero.
use Rattle.std.proofs.Common.{inl, inr, ◌≡◌, ◌≤◌, ◌<◌, ◌*◌, ◌/◌, ◌%◌, ◌^◌, ◌+◌, ◌-◌, ℕ, sym, ap, ◌∙◌, arith}
use Rattle.std.proofs.lemmas.Nat.{pow-add}
use Rattle.cfi_read_core.specs.Addresses.{IsAddressSize}
use Rattle.std.proofs.Math.Nat.{mul-mod_left, mul_assoc, div-eq_of_lt, pow-le-pow_right}

pub shifted_out_left : (n a p : ℕ) → n ≤ p → 0 ≡ a * 2 ^ p % 2 ^ n
shifted_out_left n a p h =
    let split : p ≡ (p - n) + n = omega arith in
    let power : 2 ^ p ≡ 2 ^ (p - n) * 2 ^ n = ap (λ (k : ℕ). 2 ^ k) split ∙ pow-add 2 (p - n) n in
    let product : a * 2 ^ p ≡ (a * 2 ^ (p - n)) * 2 ^ n = ap (λ (k : ℕ). a * k) power ∙ sym (mul_assoc a (2 ^ (p - n)) (2 ^ n)) in
    sym (ap (λ (k : ℕ). k % 2 ^ n) product ∙ mul-mod_left (a * 2 ^ (p - n)) (2 ^ n))

pub shifted_out_right : (n a p : ℕ) → a < 2 ^ n → n ≤ p → 0 ≡ a / 2 ^ p
shifted_out_right n a p fits h =
    let power : 2 ^ n ≤ 2 ^ p = pow-le-pow_right {n = 2} (omega arith) h in
    let below : a < 2 ^ p = omega arith in
    sym (div-eq_of_lt below)

pub shifted_out_low : (size a p : ℕ) → IsAddressSize size → 64 ≤ p → 0 ≡ a * 2 ^ p % 2 ^ (8 * size)
shifted_out_low size a p sized h = shifted_out_left (8 * size) a p (at_most sized)
  where
    at_most : IsAddressSize size → 8 * size ≤ p
    at_most (inl e) = omega arith
    at_most (inr (inl e)) = omega arith
    at_most (inr (inr (inl e))) = omega arith
    at_most (inr (inr (inr e))) = omega arith
