use Rattle.std.proofs.Common.{◌≡◌, ◌<◌, ◌^◌, ℕ, ℤ, FitsSigned, IfSome, Ok, Some, inr, rules, subst, w8}
use Rattle.std.proofs.lemmas.Int.{to_z-of_z}
use Rattle.std.specs.Int.{w64, bit_not}
use Rattle.std.specs.Prelude.{bit_and}
use Rattle.cfi_expression.specs.Arithmetic.{displaced}
use Rattle.cfi_step.specs.declared.packed_rules.SmallRule.TheVariants.{Offset}
use Rattle.cfi_step.specs.PackedRules.{eightfold}
use Rattle.cfi_c.specs.PassedMemories.{number_in_memory}
use Rattle.cfi_c.proofs.PackedReads.{by_first, by_row, if_some_at}
use Rattle.cfi_c.proofs.packed_caller.quick_pc.Goals as goal

pub returns-in-Some : goal.returns-in-Some
returns-in-Some c =
    let memory = c.args.memory.now in
    let rule = c.rule_of-rule.result in
    let ra = c.return_address-register.result in
    let bits = c.signature_of-signature.result in
    let words = c.in-Some-Offset.words in
    let is : rule ≡ Some (Offset words) = search rules in
    let fits : FitsSigned w8 words = search rules in
    let small : c.in-Some.pc < 2 ^ 64 = search rules in
    let found : IfSome c.number_at.result (λ n. number_in_memory memory (displaced memory.address_size c.args.cfa (eightfold words)) memory.address_size ≡ Some n) =
    subst (λ (z : ℤ). IfSome c.number_at.result (λ n. number_in_memory memory (displaced memory.address_size c.args.cfa (eightfold z)) memory.address_size ≡ Some n)) (to_z-of_z w8 words fits)
    (c.number_at.ensures memory c.requires.first) in
    let read = if_some_at (λ (n : ℕ). number_in_memory memory (displaced memory.address_size c.args.cfa (eightfold words)) memory.address_size ≡ Some n) c.number_at.result c.in-Some.pc c.in-Some.is found in
    by_row memory c.args.registers.now c.args.row.now c.args.cfa ra bits c.args.rules.now rule (Ok (Some (bit_and c.in-Some.pc (bit_not w64 bits)))) c.return_address-register.ensures c.requires.rules c.rule_of-rule.ensures
    c.signature_of-signature.ensures
    (by_first memory c.args.registers.now c.args.cfa ra bits rule words is (inr (inr (inr c.requires.size))) c.in-Some.pc small read)
