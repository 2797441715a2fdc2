use Rattle.std.proofs.Common.{◌≡◌, ℕ, ℤ, FitsSigned, IfSome, Some, rules, subst, w8}
use Rattle.std.proofs.lemmas.Int.{to_z-of_z}
use Rattle.cfi_expression.specs.Arithmetic.{displaced}
use Rattle.cfi_step.specs.declared.packed_rules.SmallRule.TheVariants.{Offset}
use Rattle.cfi_step.specs.PackedRules.{eightfold}
use Rattle.cfi_c.specs.PassedMemories.{number_in_memory}
use Rattle.cfi_c.proofs.PackedReads.{given_saved, if_some_at}
use Rattle.cfi_c.proofs.packed_registers.value_of.Goals as goal

pub returns-in-Some : goal.returns-in-Some
returns-in-Some c =
    let memory = c.args.memory.now in
    let words = c.in-Offset.words in
    let is : c.args.rule.now ≡ Offset words = search rules in
    let fits : FitsSigned w8 words = search rules in
    let found : IfSome c.number_at.result (λ n. number_in_memory memory (displaced memory.address_size c.args.cfa (eightfold words)) memory.address_size ≡ Some n) =
    subst (λ (z : ℤ). IfSome c.number_at.result (λ n. number_in_memory memory (displaced memory.address_size c.args.cfa (eightfold z)) memory.address_size ≡ Some n)) (to_z-of_z w8 words fits)
    (c.number_at.ensures memory c.requires.first) in
    given_saved memory c.args.cfa c.args.rule.now words is c.requires.size (Some c.in-Some.number)
    (if_some_at (λ (n : ℕ). number_in_memory memory (displaced memory.address_size c.args.cfa (eightfold words)) memory.address_size ≡ Some n) c.number_at.result c.in-Some.number c.in-Some.is found)

pub returns : goal.returns
returns c = c.value_by_rule.ensures
