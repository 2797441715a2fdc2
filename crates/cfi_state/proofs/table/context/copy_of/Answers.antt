use Rattle.std.proofs.Common.{◌∷◌, ◌++◌, [], ap, ◌∙◌, arith}
use Rattle.std.proofs.lemmas.List.{take_all}
use Rattle.cfi_state.proofs.Lists.{one_more}
use Rattle.cfi_state.proofs.table.context.copy_of.Goals as goal

pub loop-row-preserved : goal.loop-row-preserved
loop-row-preserved g c =
    let held = g.S-Stack-ArrayLike.items c.loop-row.stack in
    one_more c.args.rows.now held (g.S-Stack-ArrayLike.items c.try_push.new.self) c.loop-row.row-index c.row-item.result c.loop-row-test.true c.row-item.is c.loop-row.invariant
    (c.in_default.ensures.ok ∙ ap (λ row. held ++ row ∷ []) c.in_ok-try_clone.ensures.ok)

pub returns-clause-ok : goal.returns-clause-ok
returns-clause-ok g c = c.loop-row.invariant ∙ take_all c.loop-row.row-index c.args.rows.now (omega arith)
