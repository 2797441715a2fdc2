use Rattle.std.proofs.Common.{◌≡◌, drop, map}
use Rattle.std.specs.FinMap.{get}
use Rattle.gimli_cfi.specs.Words.{rules_of}
use Rattle.cfi_step.specs.PackedRules.{pair_of}
use Rattle.cfi_step.proofs.packed_rules.rule_of.Given as goal

-- the register's rule is among those that are left
abbrev pub invariant-loop-packed : goal.invariant-loop-packed
invariant-loop-packed l =
    get (rules_of (map pair_of (drop l.packed-index l.rules))) l.register ≡ get (rules_of (map pair_of l.rules)) l.register
