use Rattle.std.proofs.Common.{sym}
use Rattle.cfi_step.proofs.FirstRules.{rule_none}
use Rattle.cfi_step.proofs.slots.NoRowRowRules.register_rule.Goals as goal

pub returns : goal.returns
returns g c = sym (rule_none c.args._register.0)
