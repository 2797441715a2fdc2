use Rattle.std.proofs.Common.{◌≡◌, ◌++◌}
use Rattle.cfi_row_text.specs.KeptRules.{kept_rules, kept_text}
use Rattle.cfi_row_text.proofs.kept_rules.KeptRules.has_room.Given as goal

-- the kept rules and those that are left are all
abbrev pub invariant-loop-rule : goal.invariant-loop-rule
invariant-loop-rule l =
    let left = l.rule-iterator.rules.now in
    (goal.iterator-loop-rule).can_next l.rule-iterator ×
    (goal.iterator-loop-rule).is_finite l.rule-iterator ×
    (kept_rules l.self ++ left ≡ l.fn.rules.rules.now) ×
    (kept_text l.self ≡ kept_text l.fn.self)
