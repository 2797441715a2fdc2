use Rattle.std.proofs.Common.{List, ℕ, ap}
use Rattle.cfi_text.proofs.TextLemmas.{both, same}
use Rattle.cfi_text.specs.Escapes.{escaped}
use Rattle.cfi_text.specs.declared.escapes.Escaping.TheVariants.{Folded}
use Rattle.cfi_stacks.proofs.folded_text.put_file.Goals as goal

pub returns-in-Some : goal.returns-in-Some
returns-in-Some c =
    let named = same _ _ _ _ (ap (λ (name : List ℕ). escaped (Folded 32) name) c.base_name.ensures) c.escaped.ensures in
    rw c.in-Some.is (both _ _ _ _ _ c.put-in-Some.ensures (both _ _ _ _ _ named c.put-in-Some-2.ensures))
