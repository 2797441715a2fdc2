use Rattle.std.proofs.Common.{◌≡◌, ℕ, ◌+◌, ◌<◌, length}
use Rattle.cfi_compiled.specs.CompiledRows.{parts_kept}
use Rattle.cfi_c.specs.WrittenRows.{rule_for_c, rule_at, rule_in}
use Rattle.cfi_c.specs.TableRows.{unplaced}
use Rattle.cfi_c.proofs.compiled.write_rules.Given as goal

abbrev pub invariant-loop-k : goal.invariant-loop-k
invariant-loop-k l =
    (length l.rules ≡ length l.initial.rules) ×
    ((k : ℕ) → k < l.k → rule_in l.rules (0 + k) ≡ rule_for_c (rule_at (unplaced (parts_kept l.found)) k))
