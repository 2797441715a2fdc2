use Rattle.cfi_row_text.specs.KeptRules.{HaveNoExpression}
use Rattle.cfi_row_text.proofs.plain_rows.have_no_expression.Given as goal

-- all are plain where those that are left are
abbrev pub invariant-loop-rule : goal.invariant-loop-rule
invariant-loop-rule l =
    let left = l.rule-iterator.rules.now in
    (goal.iterator-loop-rule).can_next l.rule-iterator ×
    (goal.iterator-loop-rule).is_finite l.rule-iterator ×
    (HaveNoExpression left → HaveNoExpression l.fn.rules.rules.now)
