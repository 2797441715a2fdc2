use Rattle.std.proofs.Common.{◌≡◌, true, take}
use Rattle.std.specs.List.{list_all}
use Rattle.cfi_state.proofs.Equal.{agrees}
use Rattle.cfi_state.proofs.table.rules.has_same_rules.Given as goal

abbrev pub invariant-loop-pair : goal.invariant-loop-pair
invariant-loop-pair g l = list_all (agrees g.T.PartialEq.eq l.pairs l.others) (take l.pair-index l.pairs) ≡ true
