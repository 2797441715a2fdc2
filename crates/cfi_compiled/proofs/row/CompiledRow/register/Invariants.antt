use Rattle.std.proofs.Common.{◌≡◌, drop}
use Rattle.std.specs.FinMap.{get}
use Rattle.cfi_state.specs.RulePairs.{rules_of}
use Rattle.cfi_compiled.proofs.row.CompiledRow.register.Given as goal

-- the register's rule is among those that are left
abbrev pub invariant-loop-pair : goal.invariant-loop-pair
invariant-loop-pair l = get (rules_of (drop l.pair-index l.self.rules.now)) l.register.0 ≡ get (rules_of l.self.rules.now) l.register.0
