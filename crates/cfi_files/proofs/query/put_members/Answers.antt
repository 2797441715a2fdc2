use Rattle.std.proofs.Common.{List, ℕ, ap}
use Rattle.cfi_text.specs.Escapes.{escaped}
use Rattle.cfi_text.specs.declared.escapes.Escaping.TheVariants.{Json}
use Rattle.cfi_text.proofs.TextLemmas.{both, same}
use Rattle.cfi_files.proofs.query.put_members.Goals as goal

pub returns : goal.returns
returns c =
    let word = same _ _ _ _ (ap (λ (name : List ℕ). escaped Json name) c.as_bytes.ensures.value) c.escaped.ensures in
    both _ _ _ _ _ c.put.ensures (both _ _ _ _ _ word c.put_address_member.ensures)
