use Rattle.std.proofs.Common.{◌≡◌, ℕ, ◌≤◌, None}
use Rattle.std.specs.FinMap as map
use Rattle.cfi_state.specs.RulePairs.{rules_of}
use Rattle.cfi_row_text.proofs.register_rules.UnwindTableRowUsizeHasRules.end.Given as goal

-- a register from `end` on has a rule only where it has one among those that are left
abbrev pub invariant-loop-register : goal.invariant-loop-register
invariant-loop-register g l =
    (goal.iterator-loop-register g).can_next l.register-iterator ×
    (goal.iterator-loop-register g).is_finite l.register-iterator ×
    ((l.end ≤ 65536) × ((register : ℕ) → l.end ≤ register → map.get (rules_of l.register-iterator.rules.now) register ≡ None → map.get l.self.parts.rules register ≡ None))
