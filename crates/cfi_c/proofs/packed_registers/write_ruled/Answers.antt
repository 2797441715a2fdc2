use Rattle.std.proofs.Common.{◌≡◌, ◌+◌, ◌-◌, ◌∙◌, ◌∷◌, ℕ, Some, ap, arith, drop, get_or, length, pos, sym}
use Rattle.std.specs.Prelude.{slice_set}
use Rattle.std.proofs.lemmas.List.{drop_all, drop_more}
use Rattle.cfi_step.specs.declared.packed_rules.PackedRule.{PackedRule}
use Rattle.cfi_step.specs.PackedRows.{parts_packed}
use Rattle.cfi_step.specs.PackedRules.{pair_of}
use Rattle.cfi_c.specs.PassedRegisters.{plain_of}
use Rattle.cfi_c.specs.PassedRegisters.{written_value}
use Rattle.cfi_c.proofs.PackedValues.{plain_set, plain_values}
use Rattle.cfi_c.proofs.PackedWrites.{begun, by_all, one_further, value_by}
use Rattle.cfi_c.proofs.packed_registers.write_ruled.Goals as goal

abbrev nothing : PackedRule
nothing = record { register = 0; words = pos 0 }

pub loop-index-init : goal.loop-index-init
loop-index-init c =
    let rules = c.args.rules.now in
    let memory = c.args.memory.now in
    let old = c.args.caller.now in
    let written : c.write_at.new.caller ≡ slice_set old memory.stack_pointer (written_value (Some c.args.cfa)) =
    c.write_at.ensures ∙ ap (λ (k : ℕ). slice_set old k (written_value (Some c.args.cfa))) c.from.ensures in
    let none = drop_all (length rules) rules (omega arith) in (
      λ registers are. begun memory registers (parts_packed c.args.row.now) c.args.cfa (drop (length rules) rules) old c.write_at.new.caller none are written,
      begun memory old (parts_packed c.args.row.now) c.args.cfa (drop (length rules) rules) (plain_of old) (plain_of c.write_at.new.caller) none (plain_values old)
          (ap plain_of written ∙ plain_set old memory.stack_pointer (Some c.args.cfa)),
    )

pub loop-index-preserved : goal.loop-index-preserved
loop-index-preserved c =
    let memory = c.args.memory.now in
    let rules = c.args.rules.now in
    let index = c.loop-index.index - 1 in
    let rule = get_or rules index nothing in
    let next : c.loop-index.index ≡ index + 1 = omega (arith, c.loop-index-test.true) in
    let here : drop index rules ≡ rule ∷ drop c.loop-index.index rules =
    drop_more rules index nothing (omega (arith, c.loop-index-test.true)) ∙ ap (λ (m : ℕ). rule ∷ drop m rules) (sym next) in
    let before = c.loop-index.caller in
    let parts = parts_packed c.args.row.now in (
      λ registers are.
          one_further memory registers parts c.args.cfa (drop index rules) (drop c.loop-index.index rules) rule here before c.write_by_rule.new.caller
          (c.loop-index.invariant.0 registers are) (c.write_by_rule.ensures registers),
      one_further memory c.args.caller.now parts c.args.cfa (drop index rules) (drop c.loop-index.index rules) rule here (plain_of before) (plain_of c.write_by_rule.new.caller)
          c.loop-index.invariant.1
          (λ bytes.
          ap plain_of (c.write_by_rule.ensures c.args.caller.now bytes)
          ∙ plain_set before (pair_of rule).0.0 (value_by memory c.args.caller.now parts c.args.cfa (drop index rules) (drop c.loop-index.index rules) rule here before c.write_by_rule.new.caller bytes)),
    )

pub returns-clause-copied : goal.returns-clause-copied
returns-clause-copied c = λ registers are.
    by_all c.args.memory.now registers c.args.row.now c.args.cfa c.loop-index.index c.args.rules.now c.loop-index.caller (omega (arith, c.loop-index-test.false))
    c.requires.rules (c.loop-index.invariant.0 registers are)

pub returns-clause-in_place : goal.returns-clause-in_place
returns-clause-in_place c =
    by_all c.args.memory.now c.args.caller.now c.args.row.now c.args.cfa c.loop-index.index c.args.rules.now (plain_of c.loop-index.caller) (omega (arith, c.loop-index-test.false))
    c.requires.rules c.loop-index.invariant.1
