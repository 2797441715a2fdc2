-- What is live is there.
use Rattle.std.proofs.Common.{◌≡◌, Option, Some, None, true, refl}
use Rattle.cfi_c.specs.AddressRows.{is_live}

pub held_there : {A : Type 0} (held : Option A) → is_live held ≡ true → (value : A) × (held ≡ Some value)
held_there None live = absurd (cc)
held_there (Some value) live = (value, refl)
