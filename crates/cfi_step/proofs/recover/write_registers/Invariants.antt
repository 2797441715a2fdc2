use Rattle.std.proofs.Common.{length, drop}
use Rattle.cfi_expression.specs.Frames.{frame_view}
use Rattle.cfi_step.specs.Callers.{AreRecovered}
use Rattle.cfi_step.proofs.Recovering.{with_rules}
use Rattle.cfi_step.proofs.recover.write_registers.Given as goal

-- the registers are those by the rules from here on
abbrev pub invariant-loop-index : goal.invariant-loop-index
invariant-loop-index g l =
    AreRecovered (frame_view g.M.Memory.number_at l.frame) (g.Section._UnwindSectionPrivate.view l.section).position l.abi g.Rules.Offset.ReaderOffset.number
    (with_rules (g.Rules.RowRules.parts l.row) (drop l.index l.rules)) l.cfa (length l.caller) l.caller
