use Rattle.std.proofs.Common.{◌≡◌, ◌-◌, ◌/◌, ◌<◌, ◌≤◌, List, [], ◌∷◌, ◌++◌, ℕ, length, sym, ap, subst, ◌∙◌, arith}
use Rattle.cfi_compiled.specs.PagedSteps.{IsPaged, PagedView, paged_from}
use Rattle.cfi_compiled.proofs.PagedSearch.{how_many}
use Rattle.cfi_compiled.proofs.PagedPushes.{all_pushed, end_more, longer, same_steps}
use Rattle.cfi_compiled.proofs.paged_steps.PagedSteps.push.Goals as goal

pub overflow_cast-count : goal.overflow_cast-count
overflow_cast-count c =
    let many = how_many c.self.inside.lead c.self.inside.first c.self.inside.ends.items c.self.inside.steps.items c.self.invariant in
    let is = ap (λ (v : PagedView). length v.steps) c.self.view_is in
    omega (arith, many, is, c.len-count.ensures, c.self.inside.steps.ok.0, c.requires.room)

pub loop-self-preserved : goal.loop-self-preserved
loop-self-preserved c =
    let pushing = c.loop-self.invariant in
    let first = c.self.inside.first in
    let steps = c.self.inside.steps.items in
    let ends = c.loop-self.self-inside.ends.items in
    let count : c.len-count.result ≡ length steps = omega (arith, c.len-count.ensures, c.self.inside.steps.ok.0) in
    let grown : c.push.new.self.items ≡ ends ++ length steps ∷ [] = c.in_ok-push.ensures.items ∙ ap (λ n. ends ++ n ∷ []) count in
    let fewer : length ends < c.args.start / 512 - first = omega (arith, c.loop-self-test.true, c.len.ensures, c.loop-self.self-inside.ends.ok.0) in
    let long = longer ends (length steps) in
    let now = ap (λ (l : List ℕ). length l) grown in
    record {
      same_lead = pushing.same_lead;
      same_first = pushing.same_first;
      same_steps = pushing.same_steps;
      same = ap (λ (e : List ℕ). paged_from 0 first e steps) grown ∙ same_steps first ends steps pushing.paged ∙ pushing.same;
      paged = subst (λ (e : List ℕ). IsPaged first e steps) (sym grown) (end_more first ends steps pushing.paged (omega (arith, fewer, c.ranges.start.fits)));
      few = omega (arith, fewer, long, now);
    }

pub returns-clause-steps : goal.returns-clause-steps
returns-clause-steps c =
    let all : c.args.start / 512 - c.self.inside.first ≤ length c.loop-self.self-inside.ends.items = omega (arith, c.loop-self-test.false, c.len.ensures, c.loop-self.self-inside.ends.ok.0) in
    let is = ap (λ (v : PagedView). v.page) c.self.view_is in
    all_pushed _ _ _ _ _ _ _ _ _ c.loop-self.invariant all c.args.start c.args.number (omega (arith, is, c.requires.page)) c.of.result c.of.ensures.offset c.of.ensures.number c.push-2.new.self.items c.in_ok-push-2.ensures.items
    ∙ ap (λ (v : PagedView). v.steps ++ record { start = c.args.start; number = c.args.number } ∷ []) c.self.view_is
