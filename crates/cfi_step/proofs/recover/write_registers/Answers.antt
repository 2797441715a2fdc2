use Rattle.std.proofs.Common.{◌-◌, arith, drop, length}
use Rattle.std.proofs.lemmas.List.{drop_all}
use Rattle.cfi_expression.specs.Frames.{frame_view}
use Rattle.cfi_step.proofs.Recovering.{from_here, none_more, none_yet, one_more}
use Rattle.cfi_step.proofs.recover.write_registers.Goals as goal

pub loop-index-init : goal.loop-index-init
loop-index-init g c =
    let pairs = c.register_rules-rules.result.now in
    none_yet (frame_view g.M.Memory.number_at c.args.frame.now) (g.Section._UnwindSectionPrivate.view c.args.section.now).position c.args.abi.now
    g.Rules.Offset.ReaderOffset.number (g.Rules.RowRules.parts c.args.row.now) c.args.cfa
    (drop (length pairs) pairs) c.copy_known.new.caller c.write_register.new.caller (drop_all (length pairs) pairs (omega arith)) c.copy_known.ensures c.write_register.ensures

pub loop-index-preserved-then-from-caller : goal.loop-index-preserved-then-from-caller
loop-index-preserved-then-from-caller g c =
    let pairs = c.register_rules-rules.result.now in
    let pair = c.index-rules-index.result in
    let here = from_here pairs (c.loop-index.index - 1) c.loop-index.index pair (omega (arith, c.loop-index-test.true)) (omega (arith, c.loop-index-test.true)) c.index-rules-index.is in
    one_more (frame_view g.M.Memory.number_at c.args.frame.now) (g.Section._UnwindSectionPrivate.view c.args.section.now).position c.args.abi.now
    g.Rules.Offset.ReaderOffset.number (g.Rules.RowRules.parts c.args.row.now) c.args.cfa
    (drop (c.loop-index.index - 1) pairs) pair (drop c.loop-index.index pairs) here c.loop-index.caller c.loop-index.invariant
    c.value_by_rule-value.result c.write_register-then-from-caller.new.caller c.value_by_rule-value.ensures c.write_register-then-from-caller.ensures

pub loop-index-preserved : goal.loop-index-preserved
loop-index-preserved g c =
    let pairs = c.register_rules-rules.result.now in
    let pair = c.index-rules-index.result in
    let here = from_here pairs (c.loop-index.index - 1) c.loop-index.index pair (omega (arith, c.loop-index-test.true)) (omega (arith, c.loop-index-test.true)) c.index-rules-index.is in
    none_more (frame_view g.M.Memory.number_at c.args.frame.now) (g.Section._UnwindSectionPrivate.view c.args.section.now).position c.args.abi.now
    g.Rules.Offset.ReaderOffset.number (g.Rules.RowRules.parts c.args.row.now) c.args.cfa
    (drop (c.loop-index.index - 1) pairs) pair (drop c.loop-index.index pairs) here c.loop-index.caller c.loop-index.invariant
    (omega (arith, c.if-from-caller.false, c.from.ensures))
