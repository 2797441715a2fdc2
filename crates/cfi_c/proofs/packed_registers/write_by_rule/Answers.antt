use Rattle.std.proofs.Common.{◌∙◌, ℕ, Option, ap}
use Rattle.std.specs.Prelude.{slice_set}
use Rattle.cfi_step.specs.declared.packed_rules.SmallRule.{SmallRule}
use Rattle.cfi_step.specs.Callers.{by_rule, found_value}
use Rattle.cfi_step.specs.PackedRules.{rule_by}
use Rattle.cfi_c.specs.PackedSteps.{passed_frame}
use Rattle.cfi_c.specs.PassedMemories.{abi_in}
use Rattle.cfi_c.specs.PassedRegisters.{written_value}
use Rattle.cfi_c.proofs.packed_registers.write_by_rule.Goals as goal

pub returns : goal.returns
returns c = λ registers bytes.
    let memory = c.args.memory.now in
    let k = c.args.packed.register in
    c.write_value.ensures ∙ (ap (λ (k : ℕ). slice_set c.args.caller.now k (written_value c.value_of-value.result)) c.register-register.ensures
    ∙ (ap (λ (o : Option ℕ). slice_set c.args.caller.now k (written_value o)) (c.value_of-value.ensures registers bytes k)
    ∙ ap (λ (r : SmallRule). slice_set c.args.caller.now k (written_value (found_value (by_rule (passed_frame memory registers) bytes (abi_in memory) (λ (n : ℕ). n) c.args.cfa k (rule_by r))))) c.rule.ensures))
