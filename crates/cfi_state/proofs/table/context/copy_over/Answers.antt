use Rattle.std.proofs.Common.{◌≡◌, ap, ◌∙◌, length, ◌<◌, arith, rules}
use Rattle.std.proofs.Math.ListN.{set, length-set}
use Rattle.std.proofs.lemmas.Result.{IfOk-weaker, IfErr-weaker}
use Rattle.cfi_state.proofs.Contexts.{same_below-set}
use Rattle.cfi_state.proofs.table.context.copy_over.Goals as goal

pub returns-clause-ok : goal.returns-clause-ok
returns-clause-ok g c =
    let lent = c.as_mut_slice-rows.ensures.value in
    let written = set c.as_mut_slice-rows.result.now c.args.index c.copy_from.new.self in
    rw (g.S-Stack-ArrayLike-met.items_of_with_items c.args.stack.now written (length-set _ _ _ ∙ ap length lent))
    (IfOk-weaker c.copy_from.result (λ _. c.copy_from.new.self ≡ c.args.row.now) _ (λ _ same i. set (lent i) c.args.index (same i)) c.copy_from.ensures.ok)

pub bounds-rows-index : goal.bounds-rows-index
bounds-rows-index g c = omega (arith, ap length c.as_mut_slice-rows.ensures.value, c.requires)

pub returns-clause-err : goal.returns-clause-err
returns-clause-err g c =
    let lent = c.as_mut_slice-rows.ensures.value in
    let written = set c.as_mut_slice-rows.result.now c.args.index c.copy_from.new.self in
    rw (g.S-Stack-ArrayLike-met.items_of_with_items c.args.stack.now written (length-set _ _ _ ∙ ap length lent))
    (IfErr-weaker c.copy_from.result _ _ (λ _ _. same_below-set (g.S-Stack-ArrayLike.items c.args.stack.now) c.as_mut_slice-rows.result.now c.args.index c.copy_from.new.self lent c.requires) c.copy_from.ensures.err)

pub returns-clause-memory : goal.returns-clause-memory
returns-clause-memory g c = c.copy_from.ensures.err

pub offset_bounds-rows-index : goal.offset_bounds-rows-index
offset_bounds-rows-index g c =
    let within : c.args.index < length c.as_mut_slice-rows.result.now = omega (arith, ap length c.as_mut_slice-rows.ensures.value, c.requires) in search rules
