use Rattle.std.proofs.Common.{◌≡◌, ◌<◌, ℕ, Bool, refl}
use Rattle.std.specs.Prelude.{◌&&◌, nat_le}
use Rattle.std.proofs.lemmas.Bool.{lt-leb}
use Rattle.cfi_unwind.proofs.entry.fde.FrameDescriptionEntry+R.contains.Goals as goal

-- an address below the first is not covered, wherever the end is
below_is_out : (first address : ℕ) (before : Bool) → address < first → nat_le first address ≡ (nat_le first address && before)
below_is_out first address before below = rw (lt-leb first address below) refl

pub returns-else-self-address : goal.returns-else-self-address
returns-else-self-address g c = below_is_out _ _ _ c.if-self-address.false
