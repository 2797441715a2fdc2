-- Registers by the bits of their mask.
use Rattle.std.specs.Result.{result_ok}
use Rattle.std.proofs.Common.{◌≡◌, ◌<◌, ◌≤◌, ◌+◌, ◌-◌, ◌*◌, ◌/◌, ◌%◌, ◌^◌, ℕ, Bool, true, false, List, Option, None, length, drop, refl, sym, ap, subst, arith}
use Rattle.std.specs.Prelude.{IsSome, IsTrue, ◌↔◌, ◌==◌, not, count_ones, if◌then◌else◌, nat_le}
use Rattle.std.specs.Int.{w64}
use Rattle.std.specs.Int.Count.{ones, ones_step}
use Rattle.std.proofs.lemmas.Bool.{eqb-false}
use Rattle.std.proofs.lemmas.List.{length-drop}
use Rattle.std.proofs.lemmas.Nat.{div-add-mod', ones_cat}
use Rattle.std.proofs.Math.Nat.{div-eq_of_lt, mod-lt, pow-le-pow_right}
use Rattle.std.proofs.Math.Pow.{pow_pos}
use borrow.Author.Tests.{le-leb}
use Rattle.cfi_read_core.specs.Numbers.{unsigned}
use Rattle.cfi_perf.specs.ByteReads.{read_from}
use Rattle.cfi_perf.specs.Samples.{UserRegisters, has_register, sampled_register}

no_bit : (mask number : ℕ) → mask < 2 ^ 64 → 64 ≤ number → mask / 2 ^ number ≡ 0
no_bit mask number bound above = let power : 2 ^ 64 ≤ 2 ^ number = pow-le-pow_right (omega arith) above in div-eq_of_lt (omega (arith, bound, power))

-- ---- a register whose bit is set is there

-- fewer bits are set below one that is set than in all
fewer_below : (mask number : ℕ) → ((mask / 2 ^ number) % 2 == 0) ≡ false → count_ones (mask % 2 ^ number) < count_ones mask
fewer_below mask number set =
    let high = mask / 2 ^ number in
    let low = mask % 2 ^ number in
    let whole : count_ones (high * 2 ^ number + low) ≡ count_ones mask = ap count_ones (div-add-mod' mask (2 ^ number)) in
    let apart : count_ones (high * 2 ^ number + low) ≡ count_ones high + count_ones low = ones_cat number high low (mod-lt mask (pow_pos number)) in
    let first : count_ones high ≡ high % 2 + count_ones (high / 2) = ones_step high in
    let some = eqb-false (high % 2) 0 set in
    omega (arith, whole, apart, first, some)

-- eight bytes are a number
enough : (big : Bool) (bytes : List ℕ) → 8 ≤ length bytes → IsSome (result_ok (read_from big bytes (unsigned w64)))
unfolding unsigned
enough big bytes eight = let fits : nat_le 8 (length bytes - 0) ≡ true = le-leb _ _ (omega (arith, eight)) in rw (fits, result_ok) refl

value_there : (registers : UserRegisters) (number : ℕ) → length registers.values ≡ count_ones registers.mask * 8 → ((registers.mask / 2 ^ number) % 2 == 0) ≡ false →
    IsSome (result_ok (read_from registers.big_endian (drop (8 * count_ones (registers.mask % 2 ^ number)) registers.values) (unsigned w64)))
value_there registers number whole set =
    let below = fewer_below registers.mask number set in
    let left = length-drop (8 * count_ones (registers.mask % 2 ^ number)) registers.values in
    enough registers.big_endian _ (omega (arith, whole, below, left))

by_bit : (clear : Bool) (value : Option ℕ) → (clear ≡ false → IsSome value) → IsSome (if not clear then value else None) ↔ IsTrue (not clear)
by_bit true value there = (λ some. absurd (cc), λ set. absurd (cc))
by_bit false value there = (λ some. refl, λ set. there refl)

there : (registers : UserRegisters) (number : ℕ) → length registers.values ≡ count_ones registers.mask * 8 → IsSome (sampled_register registers number) ↔ IsTrue (has_register registers number)
there registers number whole = by_bit ((registers.mask / 2 ^ number) % 2 == 0) _ (value_there registers number whole)

-- the same of a value that is this register
pub there_as : (registers : UserRegisters) (number : ℕ) (value : Option ℕ) → length registers.values ≡ count_ones registers.mask * 8 → value ≡ sampled_register registers number → IsSome value ↔ IsTrue (has_register registers number)
there_as registers number value whole is = subst (λ (o : Option ℕ). IsSome o ↔ IsTrue (has_register registers number)) (sym is) (there registers number whole)

-- a mask has no bit from 64 on
pub none_there : (registers : UserRegisters) (number : ℕ) → registers.mask < 2 ^ 64 → 64 ≤ number → None ≡ sampled_register registers number
none_there registers number bound above = rw (no_bit registers.mask number bound above) refl
