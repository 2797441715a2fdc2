use Rattle.std.proofs.Common.{Some, refl, sym, ap, ◌∙◌}
use Rattle.cfi_state.specs.declared.table.rules.RegisterRule.TheVariants.{Constant}
use Rattle.cfi_state.specs.ContextEffects.{setting_of}
use Rattle.cfi_state.specs.UnwindContexts.{machine_state}
use Rattle.cfi_state.specs.Machine.{toggle}
use Rattle.std.specs.FinMap.{get}
use Rattle.cfi_read_core.specs.declared.instruction.CallFrameInstruction.TheVariants.{NegateRaState}
use Rattle.cfi_state.proofs.Evaluation.{gives}
use Rattle.std.specs.Prelude.{bit_xor}
use Rattle.cfi_state.proofs.table.machine.negate_ra_state.Goals as goal

pub returns-in-Some-Constant : goal.returns-in-Some-Constant
returns-in-Some-Constant g c =
    let rule = sym (c.register.ensures ∙ ap (λ x. get x.parts.rules 34) c.row.ensures) ∙ c.in-Some-Constant.is ∙ ap Some c.in-Some-Constant.field-0-is in
    λ p location. gives (setting_of p g.S.Rules.ArrayLike.limit g.S-Stack-ArrayLike.limit) g.S.Rules.CopyList.copies_free location c.args.context.now c.set_rule-in-Some-Constant.new.self
    NegateRaState (record { 0 = 34 }) (Constant (bit_xor c.in-Some-Constant.value 1)) c.set_rule-in-Some-Constant.result
    (ap (toggle (setting_of p g.S.Rules.ArrayLike.limit g.S-Stack-ArrayLike.limit) (machine_state location c.args.context.now)) rule) refl refl c.set_rule-in-Some-Constant.ensures
