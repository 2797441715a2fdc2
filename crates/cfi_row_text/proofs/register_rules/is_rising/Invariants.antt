use Rattle.cfi_state.specs.RulePairs.{IsRising}
use Rattle.cfi_row_text.proofs.RowLineLemmas.{StartsFrom}
use Rattle.cfi_row_text.proofs.register_rules.is_rising.Given as goal

-- the registers rise where those that are left rise from `from` on
abbrev pub invariant-loop-register : goal.invariant-loop-register
invariant-loop-register l =
    let left = l.register-iterator.rules.now in
    (goal.iterator-loop-register).can_next l.register-iterator ×
    (goal.iterator-loop-register).is_finite l.register-iterator ×
    (IsRising left → StartsFrom l.from left → IsRising l.fn.rules.rules.now)
