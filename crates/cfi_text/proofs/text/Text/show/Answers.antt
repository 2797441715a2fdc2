use Rattle.std.proofs.lemmas.Option.{IfSome_then}
use Rattle.cfi_text.proofs.TextLemmas.{in_calls}
use Rattle.cfi_text.proofs.text.Text.show.Goals as goal

pub returns-in-Ok : goal.returns-in-Ok
returns-in-Ok g c = IfSome_then (g.D.Display.output c.args.value) c.in-Ok.ensures.writes (λ shown written. in_calls _ _ _ written)
