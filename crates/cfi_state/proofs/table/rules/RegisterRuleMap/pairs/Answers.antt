use Rattle.cfi_state.proofs.Rising.{distinct-from_rising}
use Rattle.cfi_state.proofs.table.rules.RegisterRuleMap.pairs.Goals as goal

pub returns-clause-distinct : goal.returns-clause-distinct
returns-clause-distinct g c = rw c.as_slice.ensures.value (distinct-from_rising _ c.self.invariant)
