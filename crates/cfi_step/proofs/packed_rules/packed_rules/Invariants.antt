use Rattle.std.proofs.Common.{◌≡◌, length, map, take}
use Rattle.cfi_step.specs.PackedRules.{pair_of}
use Rattle.cfi_step.proofs.packed_rules.packed_rules.Given as goal

-- the rules before this one are packed
abbrev pub invariant-loop-index : goal.invariant-loop-index
invariant-loop-index l = (map pair_of (take l.index l.list) ≡ take l.index l.rules) × (length l.list ≡ 13)
