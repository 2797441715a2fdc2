use Rattle.std.proofs.Common.{ap, ◌∙◌, length}
use Rattle.std.proofs.Math.ListN.{set, length-set}
use Rattle.cfi_read_core.proofs.array_like.write_at.Goals as goal

pub returns : goal.returns
returns g c =
    let lent = c.as_mut_slice-slice.ensures.value in
    let written = set c.as_mut_slice-slice.result.now c.args.index c.args.item in
    g.met.A.ArrayLike.items_of_with_items c.args.list.now written (length-set _ _ _ ∙ ap length lent)
    ∙ ap (λ items. set items c.args.index c.args.item) lent
