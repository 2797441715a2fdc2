use Rattle.std.proofs.Common.{ap, ◌∙◌, length, ◌<◌, arith, rules}
use Rattle.std.proofs.Math.ListN.{set, length-set}
use Rattle.std.proofs.lemmas.Option.{slice_get-get_or}
use Rattle.cfi_state.proofs.Contexts.{same_below-set}
use Rattle.cfi_state.proofs.table.context.bring_back.Goals as goal

pub returns-clause-row : goal.returns-clause-row
returns-clause-row g c =
    let lent = c.as_mut_slice-rows.ensures.value in
    rw (slice_get-get_or (g.S-Stack-ArrayLike.items c.args.stack.now) c.args.index c.index-rows-index.result c.requires, ← lent) c.take_parts.ensures

pub returns-clause-stack : goal.returns-clause-stack
returns-clause-stack g c =
    let lent = c.as_mut_slice-rows.ensures.value in
    let written = set c.as_mut_slice-rows.result.now c.args.index c.take_parts.new.other in
    rw (g.S-Stack-ArrayLike-met.items_of_with_items c.args.stack.now written (length-set _ _ _ ∙ ap length lent))
    (same_below-set (g.S-Stack-ArrayLike.items c.args.stack.now) c.as_mut_slice-rows.result.now c.args.index c.take_parts.new.other lent c.requires)

pub bounds-rows-index : goal.bounds-rows-index
bounds-rows-index g c = omega (arith, ap length c.as_mut_slice-rows.ensures.value, c.requires)

pub offset_bounds-rows-index : goal.offset_bounds-rows-index
offset_bounds-rows-index g c =
    let within : c.args.index < length c.as_mut_slice-rows.result.now = omega (arith, ap length c.as_mut_slice-rows.ensures.value, c.requires) in search rules
