use Rattle.std.proofs.Common.{◌≡◌, ◌∙◌, ◌==◌, ℕ, Some, true, false, ap, arith, rules, sym}
use Rattle.cfi_elf.specs.Fields.{entries}
use Rattle.cfi_elf.proofs.EntrySteps.{none_is}
use Rattle.cfi_cores.specs.AuxiliaryVectors.{value_in}
use Rattle.cfi_cores.proofs.MappingSteps.{no_entries}
use Rattle.cfi_cores.proofs.Vectors.{another, ended, found}
use Rattle.cfi_cores.proofs.auxiliary_vector.value_in.Goals as goal

pub returns-in_default : goal.returns-in_default
returns-in_default c =
    let all = entries 16 c.args.vector.now in
    sym (ap (value_in c.args.kind) (none_is all c.loop-index.index c.in_default.ensures.value)) ∙ c.loop-index.invariant

pub returns : goal.returns
returns c =
    let all = entries 16 c.args.vector.now in
    sym (ap (value_in c.args.kind) (no_entries 16 c.args.vector.now c.loop-index.index (omega (arith, c.loop-index-test.false)))) ∙ c.loop-index.invariant

pub returns-then-found-eq-AT_NULL : goal.returns-then-found-eq-AT_NULL
returns-then-found-eq-AT_NULL c =
    let all = entries 16 c.args.vector.now in
    let ends : (c.xword-found.result == 0) ≡ true = search rules in
    ended c.args.kind all c.loop-index.index c.in-Some.bytes.now c.in-Some.ensures.value (ap (λ (n : ℕ). n == 0) (sym c.xword-found.ensures) ∙ ends) ∙ c.loop-index.invariant

pub returns-then-found-kind : goal.returns-then-found-kind
returns-then-found-kind c =
    let all = entries 16 c.args.vector.now in
    let goes_on : (c.xword-found.result == 0) ≡ false = search rules in
    let is : (c.xword-found.result == c.args.kind) ≡ true = search rules in
    ap Some c.xword.ensures
    ∙ (found c.args.kind all c.loop-index.index c.in-Some.bytes.now c.in-Some.ensures.value
    (ap (λ (n : ℕ). n == 0) (sym c.xword-found.ensures) ∙ goes_on) (ap (λ (n : ℕ). n == c.args.kind) (sym c.xword-found.ensures) ∙ is) ∙ c.loop-index.invariant)

pub loop-index-preserved : goal.loop-index-preserved
loop-index-preserved c =
    let all = entries 16 c.args.vector.now in
    let goes_on : (c.xword-found.result == 0) ≡ false = search rules in
    let not : (c.xword-found.result == c.args.kind) ≡ false = search rules in
    another c.args.kind all c.loop-index.index c.in-Some.bytes.now c.in-Some.ensures.value
    (ap (λ (n : ℕ). n == 0) (sym c.xword-found.ensures) ∙ goes_on) (ap (λ (n : ℕ). n == c.args.kind) (sym c.xword-found.ensures) ∙ not) ∙ c.loop-index.invariant
