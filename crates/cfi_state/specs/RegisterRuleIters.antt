-- What an iterator over a row's rules still yields.
use Rattle.std.specs.Prelude.{List}
use Rattle.cfi_read_core.specs.declared.common.Register.{Register}
use Rattle.cfi_state.specs.declared.table.rules.RegisterRule.{RegisterRule}
use Rattle.cfi_state.specs.declared.table.rules.RegisterRuleIter.{RegisterRuleIter}

abbrev pub rules_left : {T : Type 0} → RegisterRuleIter T → List (Register × RegisterRule T)
rules_left iterator = iterator.rules.now
