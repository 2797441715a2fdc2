-- The bits of a return address's signature.
use Rattle.std.proofs.Common.{◌≡◌, ◌<◌, ◌^◌, ◌∙◌, ℕ, Bool, true, false, refl, sym}
use Rattle.std.proofs.Math.Nat.{mod-eq_of_lt}
use Rattle.std.proofs.lemmas.Nat.{and_mask}
use Rattle.cfi_step.specs.Callers.{unsigned}

-- where a signature has no bits, an address is as it was
pub no_bits : (signed : Bool) (a : ℕ) → a < 2 ^ 64 → a ≡ unsigned 0 signed a
no_bits true a fits = sym (and_mask a 64 ∙ mod-eq_of_lt fits)
no_bits false a fits = refl
