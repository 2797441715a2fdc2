use Rattle.cfi_state.proofs.Registers.{rising-empty}
use Rattle.cfi_state.proofs.table.rules.RegisterRuleMap.new_in.Goals as goal

pub invariant_of-result : goal.invariant_of-result
invariant_of-result g c = rising-empty _ c.in_ok-make.ensures.ok
