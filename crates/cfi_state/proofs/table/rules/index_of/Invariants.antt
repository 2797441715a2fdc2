use Rattle.std.proofs.Common.{ℕ, ◌≤◌, ◌<◌, ◌-◌, length, get_or}
use Rattle.cfi_read_core.specs.declared.common.Register.{Register}
use Rattle.cfi_state.specs.declared.table.rules.RegisterRule.{RegisterRule}
use Rattle.cfi_state.proofs.table.rules.index_of.Given as goal

abbrev pub invariant-loop-low : goal.invariant-loop-low
invariant-loop-low g l =
    (l.low ≤ l.high) × (l.high ≤ length l.pairs)
    × ((i : ℕ) (d : Register × RegisterRule g.row.T.Denot) → i < l.low → (get_or l.pairs i d).0.0 < l.register.0)
    × ((i : ℕ) (d : Register × RegisterRule g.row.T.Denot) → l.high ≤ i → i < length l.pairs → l.register.0 < (get_or l.pairs i d).0.0)

abbrev pub decreases-loop-low : goal.decreases-loop-low
decreases-loop-low g l = l.high - l.low
