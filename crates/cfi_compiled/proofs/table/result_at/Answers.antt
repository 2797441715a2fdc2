use Rattle.std.proofs.Common.{◌<◌, length, Ok, Err, sym, ap, subst, ◌∙◌, arith}
use Rattle.cfi_compiled.specs.FrameParts.{FrameParts}
use Rattle.cfi_compiled.proofs.KeptResults.{Names, result_at}
use Rattle.cfi_compiled.proofs.table.result_at.Goals as goal

pub row-requires : goal.row-requires
row-requires c =
    let within : c.args.number < length c.args.rows.now = omega (arith, c.if-number-len.false, c.len.ensures) in
    let kept = Ok c.in-Ok.kept.now in
    subst (Names (length c.args.rests.now.rests)) (c.in-Ok.ensures kept) (c.requires c.args.number kept within)

pub returns-in-Ok-clause-frames : goal.returns-in-Ok-clause-frames
returns-in-Ok-clause-frames c =
    let within : c.args.number < length c.args.rows.now = omega (arith, c.if-number-len.false, c.len.ensures) in
    let kept = Ok c.in-Ok.kept.now in
    ap (λ (frame : FrameParts). Ok frame) c.row.ensures.frame
    ∙ sym (result_at c.args.rests.now c.args.rows.now kept c.args.number within (c.in-Ok.ensures kept)).1

pub returns-in-Err-clause-frames : goal.returns-in-Err-clause-frames
returns-in-Err-clause-frames c =
    let within : c.args.number < length c.args.rows.now = omega (arith, c.if-number-len.false, c.len.ensures) in
    let kept = Err c.in-Err.error in
    sym (result_at c.args.rests.now c.args.rows.now kept c.args.number within (c.in-Err.ensures kept)).1
