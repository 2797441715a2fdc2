use Rattle.std.proofs.Common.{◌<◌, length, Ok, ap, subst, ◌∙◌, arith}
use Rattle.cfi_compiled.specs.CompiledTables.{IsResultAt, TableContents}
use Rattle.cfi_compiled.specs.FrameParts.{FrameParts, frame_parts}
use Rattle.cfi_compiled.proofs.KeptResults.{frame_of_rest, result_at}
use Rattle.cfi_compiled.proofs.builder.TableBuilder.is_of.Goals as goal

pub returns-then-is_same_cfa : goal.returns-then-is_same_cfa
returns-then-is_same_cfa g c is =
    let rows = c.self.inside.rows in
    let parts = c.args.row.now.parts in
    let within : c.args.number < length rows = omega (arith, c.if-number-len.false, c.len.ensures) in
    let kept = Ok c.in-Ok.kept.now in
    let here = result_at c.self.inside.rests rows kept c.args.number within (c.in-Ok.ensures kept) in
    let cfa = c.is_same_cfa.ensures c.if-is_same_cfa.true ∙ c.cfa.ensures in
    let frame = frame_of_rest c.self.inside.rests c.in-Ok.kept.now c.args.facts parts cfa (c.is_of.ensures is) in
    subst (λ (t : TableContents). IsResultAt t (Ok (frame_parts c.args.facts parts)) c.args.number) c.self.view_is
    (here.0, here.1 ∙ ap (λ (f : FrameParts). Ok f) frame)
