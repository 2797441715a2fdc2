use Rattle.std.proofs.Common.{◌≡◌, drop}
use Rattle.std.specs.FinMap.{get}
use Rattle.cfi_state.specs.RulePairs.{rules_of}
use Rattle.cfi_step.proofs.cached_rows.rule_in.Given as goal

-- the register's rule is among those that are left
abbrev pub invariant-loop-pair : goal.invariant-loop-pair
invariant-loop-pair l = get (rules_of (drop l.pair-index l.rules)) l.register.0 ≡ get (rules_of l.rules) l.register.0
