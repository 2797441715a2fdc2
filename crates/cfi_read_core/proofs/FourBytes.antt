-- Four bytes of a list, one by one.
use Rattle.std.proofs.Common.{◌≡◌, ◌≤◌, ◌+◌, ℕ, List, [], ◌∷◌, length, arith}
use Rattle.std.proofs.lemmas.Grind.{common_steps}
use Rattle.std.specs.Prelude.{slice_range, slice_index}

pub four_bytes : (bs : List ℕ) (at : ℕ) → at + 4 ≤ length bs →
    slice_range bs at (at + 4) ≡ slice_index bs at ∷ slice_index bs (at + 1) ∷ slice_index bs (at + 2) ∷ slice_index bs (at + 3) ∷ []
four_bytes bs at room = grind (arith, common_steps)
