use Rattle.std.proofs.Common.{◌≡◌, ℕ, List, Option, false, rules, arith, subst}
use Rattle.std.specs.Prelude.{is_ok}
use Rattle.std.proofs.lemmas.List.{length-take}
use Rattle.cfi_c.specs.PassedRegisters.{AreValues}
use Rattle.cfi_c.specs.SteppedFrames.{IsPassedStep}
use Rattle.cfi_c.proofs.SteppedValues.{if_not_ok, if_ok}
use Rattle.cfi_c.proofs.step.step_by_many.Goals as goal

pub returns-then-is_ok-clause-step : goal.returns-then-is_ok-clause-step
returns-then-is_ok-clause-step c =
    let step = c.step_from-step in
    let new = c.write_registers.new.registers in (
      step.new.caller,
      subst (λ (r : List (Option ℕ)). IsPassedStep c.args.module.now c.args.memory.now c.args.address r step.result step.new.caller) c.write_values.ensures step.ensures,
      search (rules, arith, c.min.ensures, c.step_from-step.auto.caller, c.write_registers.auto.registers, length-take 256 new),
      if_ok step.result.caller (AreValues step.new.caller new) c.write_registers.ensures,
    )

pub returns-else-is_ok-clause-step : goal.returns-else-is_ok-clause-step
returns-else-is_ok-clause-step c =
    let step = c.step_from-step in
    let none : is_ok step.result.caller ≡ false = search rules in (
      step.new.caller,
      subst (λ (r : List (Option ℕ)). IsPassedStep c.args.module.now c.args.memory.now c.args.address r step.result step.new.caller) c.write_values.ensures step.ensures,
      search (rules, arith, c.min.ensures, c.step_from-step.auto.caller, length-take 256 c.args.caller_registers.now),
      if_not_ok step.result.caller (λ x. AreValues step.new.caller c.args.caller_registers.now) none,
    )
