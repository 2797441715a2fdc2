use Rattle.std.proofs.Common.{◌≡◌, ◌-◌, ℕ, Ok, Err, ap, sym, subst, ◌∙◌, arith, rules}
use Rattle.gimli_cfi.specs.BoundaryRows.{AreRising}
use Rattle.gimli_cfi.proofs.Climbing.{next_rises, one_rises}
use Rattle.gimli_cfi.proofs.Reasons.{reason_in_start}
use Rattle.gimli_cfi.specs.TableCheck.{IsRefusalIn}
use Rattle.gimli_cfi.proofs.hdr.check.check_starts.Goals as goal

pub returns-in_err-before-clause-reason : goal.returns-in_err-before-clause-reason
returns-in_err-before-clause-reason g c =
    let gives : c.from_residual.result ≡ Err c.in_err-before.field-0.0 = search rules in
    rw gives (reason_in_start (g.St.StartSource.answer c.args.starts.now) c.args.count 0 c.in_err-before.field-0.0 (omega (arith, c.requires)) c.in_err-before.ensures.refused)

pub loop-row-init : goal.loop-row-init
loop-row-init g c =
    let start = g.St.StartSource.answer c.args.starts.now in
    record {
      some = omega arith;
      within = c.requires;
      rising = one_rises start c.in_ok-before.before c.in_ok-before.ensures.given;
      last = λ j at. let here : 0 ≡ j = omega (arith, at) in subst (λ (i : ℕ). start i ≡ Ok c.in_ok-before.before) here c.in_ok-before.ensures.given;
      answers = c.in_ok-before.ensures.same;
      calls = omega (arith, c.in_ok-before.ensures.calls);
    }

pub returns-in_err-start-clause-reason : goal.returns-in_err-start-clause-reason
returns-in_err-start-clause-reason g c =
    let gives : c.from_residual-in_err-start.result ≡ Err c.in_err-start.field-0.0 = search rules in
    let start = g.St.StartSource.answer c.args.starts.now in
    let refused : IsRefusalIn (start c.loop-row.row) c.loop-row.row c.in_err-start.field-0.0 = rw c.loop-row.invariant.answers at c.in_err-start.ensures.refused in
    rw gives (reason_in_start start c.args.count c.loop-row.row c.in_err-start.field-0.0 c.loop-row-test.true refused)

pub returns-in_err-start-clause-calls : goal.returns-in_err-start-clause-calls
returns-in_err-start-clause-calls g c = omega (arith, c.in_err-start.ensures.calls, c.loop-row.invariant.calls, c.loop-row-test.true)

pub returns-in_err-start-clause-same : goal.returns-in_err-start-clause-same
returns-in_err-start-clause-same g c = c.in_err-start.ensures.same ∙ c.loop-row.invariant.answers

pub returns-then-start-before-clause-reason : goal.returns-then-start-before-clause-reason
returns-then-start-before-clause-reason g c = record {
  before = c.loop-row.row - 1;
  follows = omega (arith, c.loop-row.invariant.some);
  inside = c.loop-row-test.true;
  start_before = c.loop-row.invariant.last (c.loop-row.row - 1) (omega (arith, c.loop-row.invariant.some));
  start_of_row = ap (λ f. f c.loop-row.row) (sym c.loop-row.invariant.answers) ∙ c.in_ok-start.ensures.given;
  not_above = c.if-start-before.true;
}

pub returns-then-start-before-clause-calls : goal.returns-then-start-before-clause-calls
returns-then-start-before-clause-calls g c = omega (arith, c.in_ok-start.ensures.calls, c.loop-row.invariant.calls, c.loop-row-test.true)

pub returns-then-start-before-clause-same : goal.returns-then-start-before-clause-same
returns-then-start-before-clause-same g c = c.in_ok-start.ensures.same ∙ c.loop-row.invariant.answers

pub loop-row-preserved : goal.loop-row-preserved
loop-row-preserved g c =
    let start = g.St.StartSource.answer c.args.starts.now in
    let is : start c.loop-row.row ≡ Ok c.in_ok-start.start = ap (λ f. f c.loop-row.row) (sym c.loop-row.invariant.answers) ∙ c.in_ok-start.ensures.given in
    record {
      some = omega arith;
      within = omega (arith, c.loop-row-test.true);
      rising = next_rises start c.loop-row.row c.loop-row.before c.in_ok-start.start c.loop-row.invariant.some c.loop-row.invariant.rising c.loop-row.invariant.last is c.if-start-before.false;
      last = λ j at. let here : c.loop-row.row ≡ j = omega (arith, at) in subst (λ (i : ℕ). start i ≡ Ok c.in_ok-start.start) here is;
      answers = c.in_ok-start.ensures.same ∙ c.loop-row.invariant.answers;
      calls = omega (arith, c.in_ok-start.ensures.calls, c.loop-row.invariant.calls);
    }

pub returns-clause-rising : goal.returns-clause-rising
returns-clause-rising g c =
    let all : c.loop-row.row ≡ c.args.count = omega (arith, c.loop-row.invariant.within, c.loop-row-test.false) in
    subst (λ (n : ℕ). AreRising (g.St.StartSource.answer c.args.starts.now) n) all c.loop-row.invariant.rising

pub returns-clause-calls : goal.returns-clause-calls
returns-clause-calls g c = omega (arith, c.loop-row.invariant.calls, c.loop-row.invariant.within)

pub returns-clause-same : goal.returns-clause-same
returns-clause-same g c = c.loop-row.invariant.answers
