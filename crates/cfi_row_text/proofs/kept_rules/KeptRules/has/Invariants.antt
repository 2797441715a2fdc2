use Rattle.std.proofs.Common.{◌≡◌}
use Rattle.cfi_row_text.specs.KeptRules.{kept_rules}
use Rattle.cfi_row_text.proofs.kept_rules.KeptRules.has.Given as goal

-- all rules are the same where those that are left are
abbrev pub invariant-loop-rule : goal.invariant-loop-rule
invariant-loop-rule l =
    let left = l.rule-iterator.rules.now in
    (goal.iterator-loop-rule).can_next l.rule-iterator ×
    (goal.iterator-loop-rule).is_finite l.rule-iterator ×
    (l.kept ≡ left → kept_rules l.self ≡ l.fn.rules.rules.now)
