use Rattle.std.proofs.Common.{arith}
use Rattle.cfi_text.proofs.TextLemmas.{both, put_all, put_first}
use Rattle.cfi_flame.proofs.ObjectLemmas.{no_function, no_object, object_put, objects_from}
use Rattle.cfi_flame.proofs.function_objects.put_objects.Goals as goal

pub loop-row-init : goal.loop-row-init
loop-row-init c = put_first _ (objects_from c.args.rows.now 0)

pub loop-row-preserved : goal.loop-row-preserved
loop-row-preserved c = object_put _ _ _ c.args.rows.now c.loop-row.row-index no_function c.loop-row-test.true c.loop-row.invariant c.put_function.ensures

pub returns : goal.returns
returns c = both _ _ _ _ _ c.put_ended.ensures (put_all _ _ _ _ c.loop-row.invariant (no_object c.args.rows.now c.loop-row.row-index (omega (arith, c.loop-row-test.false))))
