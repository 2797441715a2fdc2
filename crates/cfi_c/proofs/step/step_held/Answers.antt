use Rattle.std.proofs.Common.{◌≡◌, Bool, Ok, List, refl, rules, subst, map, true, sym}
use Rattle.cfi_read_core.specs.Addresses.{IsAddressSize}
use Rattle.cfi_c.specs.declared.register.CfiValue.{CfiValue}
use Rattle.cfi_c.specs.AddressRows.{is_live}
use Rattle.cfi_c.specs.PassedRegisters.{known_value}
use Rattle.cfi_c.specs.SteppedFrames.{IsHeldStep, IsStepWith}
use Rattle.cfi_c.proofs.step.step_held.Goals as goal

pub returns-clause-step : goal.returns-clause-step
returns-clause-step c =
    let step = c.step_by_values-step in
    let live : is_live c.args.held.now ≡ true = search rules in
    let sized : IsAddressSize c.args.memory.now.address_size = search rules in
    subst (λ (l : Bool). IsHeldStep l c.args.module.now c.args.memory.now c.args.address c.args.registers.now c.args.caller_registers.now step.new.caller_registers (Ok step.result)) (sym live) (
      λ other. absurd (other sized),
      λ is. (
        step.result,
        refl,
        subst (λ (l : List CfiValue). IsStepWith c.args.module.now c.args.memory.now c.args.address (map known_value l) step.result step.new.caller_registers) c.first_registers-registers.ensures.first step.ensures.step,
        step.ensures.unwritten,
      ),
    )
