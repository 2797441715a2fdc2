use Rattle.std.proofs.Common.{◌≡◌, ◌++◌}
use Rattle.cfi_state.specs.RulePairs.{rules_of, IsDistinctRegisters}
use Rattle.cfi_compiled.proofs.rests.rules_of_row.Given as goal

-- the rules that were copied, with those that are left, are the row's
abbrev pub invariant-loop-pair : goal.invariant-loop-pair
invariant-loop-pair g l =
    (goal.iterator-loop-pair g).can_next l.pair-iterator ×
    (goal.iterator-loop-pair g).is_finite l.pair-iterator ×
    (rules_of (l.own.items ++ l.pair-iterator.rules.now) ≡ l.row.parts.rules) ×
    IsDistinctRegisters (l.own.items ++ l.pair-iterator.rules.now)
