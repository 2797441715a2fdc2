use Rattle.std.proofs.Common.{None, sym, ap}
use Rattle.cfi_state.specs.Actions.{action}
use Rattle.cfi_state.specs.MachineSettings.{rule_given}
use Rattle.cfi_state.specs.ContextEffects.{setting_of}
use Rattle.cfi_state.proofs.table.machine.rule_given.Goals as goal

pub returns-in-Undefined : goal.returns-in-Undefined
returns-in-Undefined g c = sym (ap (λ i. rule_given (setting_of c.args.parameters.now None None) (action i)) c.in-Undefined.is)

pub returns-in-SameValue : goal.returns-in-SameValue
returns-in-SameValue g c = sym (ap (λ i. rule_given (setting_of c.args.parameters.now None None) (action i)) c.in-SameValue.is)

pub returns-in-Register : goal.returns-in-Register
returns-in-Register g c = sym (ap (λ i. rule_given (setting_of c.args.parameters.now None None) (action i)) c.in-Register.is)

pub returns-in-Expression : goal.returns-in-Expression
returns-in-Expression g c = sym (ap (λ i. rule_given (setting_of c.args.parameters.now None None) (action i)) c.in-Expression.is)

pub returns-in-ValExpression : goal.returns-in-ValExpression
returns-in-ValExpression g c = sym (ap (λ i. rule_given (setting_of c.args.parameters.now None None) (action i)) c.in-ValExpression.is)
