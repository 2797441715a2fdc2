use Rattle.std.proofs.Common.{◌≡◌, ◌∙◌, ◌≤◌, arith, ap, subst, sym}
use Rattle.cfi_state.specs.RulePairs.{IsDistinctRegisters, rules_of}
use Rattle.cfi_c.specs.WrittenRows.{SameAround}
use Rattle.cfi_c.proofs.RuleWrites.{all_written, none_written, one_passed, one_written}
use Rattle.cfi_c.proofs.written.write_rules.Goals as goal

pub loop-register-init : goal.loop-register-init
loop-register-init g c =
    let items = c.registers-register-items.ensures in
    let same = c.into_iter-register-iterator.ensures.into_iter_gives in
    let all : c.loop-k.k ≡ c.args.count = omega (arith, c.loop-k-test.false, c.loop-k.auto.k-end) in (
      tt,
      tt,
      none_written c.args.found.now _ c.args.rules.now c.loop-k.rules c.args.first c.args.count
          (ap (λ iterator. rules_of iterator.rules.now) same ∙ items.rules)
          (subst (λ iterator. IsDistinctRegisters iterator.rules.now) (sym same) items.distinct)
          c.loop-k.invariant.0
          (λ k inside. c.loop-k.invariant.1 k (omega (arith, inside, all)))
          (subst (λ n. SameAround c.args.first n c.args.rules.now c.loop-k.rules) all c.loop-k.invariant.2),
    )

pub loop-register-preserved-then-k-count : goal.loop-register-preserved-then-k-count
loop-register-preserved-then-k-count g c =
    let pair = c.in-Some.field-0.now in
    let before = rw c.in-Some.ensures.steps at c.loop-register.invariant.2 in
    let small : pair.0.0 ≤ 0xffff = omega (arith, c.number_of_register-k.ensures.number, c.number_of_register-k.ensures.small) in
    (tt, tt, rw (c.number_of_register-k.ensures.number, c.rule_of-then-k-count.ensures) (one_written c.args.found.now pair _ _ _ _ _ before small (omega (arith, c.if-k-count.true, c.number_of_register-k.ensures.number)) c.requires))

pub loop-register-preserved : goal.loop-register-preserved
loop-register-preserved g c =
    let before = rw c.in-Some.ensures.steps at c.loop-register.invariant.2 in
    (tt, tt, one_passed _ _ _ _ _ _ _ before (omega (arith, c.if-k-count.false, c.number_of_register-k.ensures.number)))

pub returns-clause-written : goal.returns-clause-written
returns-clause-written g c = all_written _ _ _ _ _ (rw c.in-None.ensures.steps.0 at c.loop-register.invariant.2)
