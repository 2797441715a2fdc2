use Rattle.std.proofs.lemmas.Option.{IfSome_then}
use Rattle.cfi_text.proofs.TextLemmas.{both, same}
use Rattle.cfi_text.proofs.text.Text.json_refusal.Goals as goal

pub returns : goal.returns
returns g c =
    let name = same _ _ _ _ c.as_bytes.ensures.value c.put-2.ensures in
    let advice = same _ _ _ _ c.as_bytes-2.ensures.value c.put-4.ensures in
    IfSome_then (g.D.Display.output c.args.sentence) c.show.ensures (λ said shown.
    both _ _ _ _ _ c.put.ensures (both _ _ _ _ _ name (both _ _ _ _ _ c.put-3.ensures (both _ _ _ _ _ shown (both _ _ _ _ _ advice c.put-5.ensures)))))
