use Rattle.std.proofs.Common.{◌∙◌, ◌≤◌, ap, length, arith}
use Rattle.std.proofs.lemmas.List.{length-take, take_all}
use Rattle.cfi_state.proofs.Lists.{one_more, as_far_as}
use Rattle.cfi_state.proofs.Registers.{fill-refused}
use Rattle.cfi_state.proofs.table.rules.fill.Goals as goal

pub returns-in-loop-index-clause-memory : goal.returns-in-loop-index-clause-memory
returns-in-loop-index-clause-memory g c =
    rw c.refusal_of.ensures
    (fill-refused g.A.ArrayLike.limit _ _ c.loop-index.index c.in-Err.refused.why c.requires c.loop-index.invariant c.loop-index-test.true c.in-Err.ensures.full c.in-Err.ensures.memory)

pub loop-index-preserved : goal.loop-index-preserved
loop-index-preserved g c =
    one_more c.args.pairs.now (g.A.ArrayLike.items c.loop-index.list) (g.A.ArrayLike.items c.try_push.new.self) c.loop-index.index c.index-pairs-index.result c.loop-index-test.true c.index-pairs-index.is c.loop-index.invariant
    c.in_default.ensures.ok

pub returns-clause-ok : goal.returns-clause-ok
returns-clause-ok g c = c.loop-index.invariant ∙ take_all c.loop-index.index c.args.pairs.now (omega arith)

pub write_over-requires : goal.write_over-requires
write_over-requires g c = omega (arith, ap length c.shorten.ensures, length-take (length c.args.pairs.now) (g.A.ArrayLike.items c.args.list.now))

pub loop-index-init : goal.loop-index-init
loop-index-init g c =
    let within : length (g.A.ArrayLike.items c.shorten.new.list) ≤ length c.args.pairs.now = omega (arith, ap length c.shorten.ensures, length-take (length c.args.pairs.now) (g.A.ArrayLike.items c.args.list.now)) in
    rw c.as_slice-index.ensures.value (as_far_as c.args.pairs.now (g.A.ArrayLike.items c.write_over.new.list) _ within c.write_over.ensures)
