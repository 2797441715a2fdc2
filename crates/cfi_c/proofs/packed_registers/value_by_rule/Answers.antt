use Rattle.std.proofs.Common.{◌≡◌, ◌∙◌, ℤ, FitsSigned, ap, rules, sym, w8}
use Rattle.std.proofs.lemmas.Int.{to_z-of_z}
use Rattle.cfi_expression.specs.Arithmetic.{displaced}
use Rattle.cfi_step.specs.declared.packed_rules.SmallRule.TheVariants.{Offset}
use Rattle.cfi_step.specs.PackedRules.{eightfold}
use Rattle.cfi_c.specs.PassedMemories.{number_in_memory}
use Rattle.cfi_c.proofs.PackedReads.{given_saved}
use Rattle.cfi_c.proofs.packed_registers.value_by_rule.Goals as goal

pub returns-in-Offset : goal.returns-in-Offset
returns-in-Offset c =
    let memory = c.args.memory.now in
    let words = c.in-Offset.words in
    let is : c.args.rule.now ≡ Offset words = search rules in
    let fits : FitsSigned w8 words = search rules in
    given_saved memory c.args.cfa c.args.rule.now words is c.requires.size c.saved_value.result
    (sym (c.saved_value.ensures ∙ ap (λ (z : ℤ). number_in_memory memory (displaced memory.address_size c.args.cfa (eightfold z)) memory.address_size) (to_z-of_z w8 words fits)))
