-- What holds of all bytes holds of those that a reader has left, known or not.
use Rattle.std.proofs.Common.{ℕ, List, [], Option, Some, None, refl, unwrap_or}
use Rattle.cfi_text.specs.Readings.{AreLeft}

left_is : (known : Option (List ℕ)) → AreLeft known (unwrap_or known [])
left_is None = tt
left_is (Some bytes) = refl

pub for_input : (known : Option (List ℕ)) (P : List ℕ → Type 0) → ((bytes : List ℕ) → P bytes) → (bytes : List ℕ) × AreLeft known bytes × P bytes
for_input known P each = (unwrap_or known [], left_is known, each (unwrap_or known []))
