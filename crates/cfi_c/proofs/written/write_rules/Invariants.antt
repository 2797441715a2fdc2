use Rattle.std.proofs.Common.{◌≡◌, ◌⊎◌, ℕ, None, ◌<◌, ◌≤◌, ◌+◌, length}
use Rattle.cfi_c.specs.WrittenRows.{rule_for_c, rule_in}
use Rattle.cfi_c.proofs.RuleWrites.{AreWritten}
use Rattle.cfi_c.proofs.written.write_rules.Given as goal

abbrev pub invariant-loop-k : goal.invariant-loop-k
invariant-loop-k g l =
    (length l.rules ≡ length l.initial.rules) ×
    ((k : ℕ) → k < l.k → rule_in l.rules (l.first + k) ≡ rule_for_c None) ×
    ((k : ℕ) → (k < l.first) ⊎ (l.first + l.k ≤ k) → rule_in l.rules k ≡ rule_in l.initial.rules k)

abbrev pub invariant-loop-register : goal.invariant-loop-register
invariant-loop-register g l =
    (goal.iterator-loop-register g).can_next l.register-iterator ×
    (goal.iterator-loop-register g).is_finite l.register-iterator ×
    AreWritten l.found l.register-iterator.rules.now l.fn.rules l.rules l.first l.count
