use Rattle.std.proofs.Common.{◌≡◌, ◌<◌, ◌^◌, ◌∙◌, ℕ, None, Some, ap, rules, sym}
use Rattle.cfi_expression.specs.Arithmetic.{displaced}
use Rattle.cfi_step.specs.declared.packed_rules.SmallRule.TheVariants.{Constant, Offset, Undefined}
use Rattle.cfi_step.specs.PackedRules.{eightfold}
use Rattle.cfi_c.proofs.PackedReads.{by_constant, by_saved, by_undefined, by_unruled}
use Rattle.cfi_c.proofs.packed_caller.pc_by_rule.Goals as goal

pub returns-in-Some-Undefined : goal.returns-in-Some-Undefined
returns-in-Some-Undefined c =
    let is : c.args.rule ≡ Some Undefined = search rules in
    by_undefined c.args.memory.now c.args.registers.now c.args.cfa c.args.register c.args.signature c.args.rule is

pub returns-in-Some-Offset : goal.returns-in-Some-Offset
returns-in-Some-Offset c =
    let words = c.in-Some-Offset.words in
    let is : c.args.rule ≡ Some (Offset words) = search rules in
    let at : c.displaced.result ≡ displaced c.args.memory.now.address_size c.args.cfa (eightfold words) = search rules in
    by_saved c.args.memory.now c.args.registers.now c.args.cfa c.args.register c.args.signature c.args.rule words is
    c.displaced.result at c.saved_pc.result c.saved_pc.ensures

pub returns-in-Some-Constant : goal.returns-in-Some-Constant
returns-in-Some-Constant c =
    let is : c.args.rule ≡ Some (Constant c.in-Some-Constant.constant) = search rules in
    let small : c.from.result < 2 ^ 64 = search rules in
    by_constant c.args.memory.now c.args.registers.now c.args.cfa c.args.register c.args.signature c.args.rule c.from.result small (is ∙ ap (λ (n : ℕ). Some (Constant n)) (sym c.from.ensures))

pub returns-in-None : goal.returns-in-None
returns-in-None c =
    let is : c.args.rule ≡ None = search rules in
    by_unruled c.args.memory.now c.args.registers.now c.args.cfa c.args.register c.args.signature c.args.rule is
    c.without_rule.result c.without_rule.ensures c.pc_of.result c.pc_of.ensures
