use Rattle.std.proofs.Common.{◌≡◌, ℕ, ◌≤◌, None, drop}
use Rattle.std.specs.FinMap as map
use Rattle.cfi_state.specs.RulePairs.{rules_of}
use Rattle.cfi_files.proofs.compiled.TableRowHasRules.end.Given as goal

-- a register from `end` on has a rule only where it has one among those that are left
abbrev pub invariant-loop-pair : goal.invariant-loop-pair
invariant-loop-pair l =
    (l.end ≤ 65536) × ((register : ℕ) → l.end ≤ register → map.get (rules_of (drop l.pair-index l.pair-items)) register ≡ None → map.get (rules_of l.pair-items) register ≡ None)
