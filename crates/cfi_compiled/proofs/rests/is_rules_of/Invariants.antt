use Rattle.std.proofs.Common.{◌≡◌, ◌≤◌, ◌++◌, take, length}
use Rattle.cfi_state.specs.RulePairs.{rules_of}
use Rattle.cfi_compiled.proofs.rests.is_rules_of.Given as goal

-- the rules that were compared, with those of the row that are left, are the row's
abbrev pub invariant-loop-pair : goal.invariant-loop-pair
invariant-loop-pair g l =
    (goal.iterator-loop-pair g).can_next l.pair-iterator ×
    (goal.iterator-loop-pair g).is_finite l.pair-iterator ×
    (l.count ≤ length l.rules) ×
    (rules_of (take l.count l.rules ++ l.pair-iterator.rules.now) ≡ l.row.parts.rules)
