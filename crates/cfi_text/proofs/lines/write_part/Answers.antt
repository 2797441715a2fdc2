use Rattle.std.proofs.Common.{◌≡◌, ◌∙◌, ap, ◌++◌}
use Rattle.std.proofs.lemmas.Fmt.{contents_after_writes}
use Rattle.std.proofs.lemmas.Option.{IfSome_then}
use Rattle.cfi_text.proofs.lines.write_part.Goals as goal

pub returns : goal.returns
returns g c = IfSome_then (g.D.Display.output c.args.part) c.in_ok-write.ensures.writes (λ bs written.
    let text : c.write.new.self.bytes ≡ c.new-text.result.bytes ++ bs = contents_after_writes _ (λ s. s.bytes) (λ s more t e. e) _ _ _ written in
    let whole : c.as_bytes.result.now ≡ bs = c.as_bytes.ensures.value ∙ c.deref.ensures.0 ∙ text ∙ ap (λ front. front ++ bs) c.new-text.ensures in
    rw whole at c.write_text.ensures)
