use Rattle.std.proofs.Common.{ℕ, List, Option, inr, refl, subst, sym}
use Rattle.cfi_stacks.specs.Choices.{choice_view}
use Rattle.cfi_stacks.specs.ProfileIndexes.{IsIndex}
use Rattle.cfi_stacks.proofs.ContentLemmas.{of_index}
use Rattle.cfi_stacks.proofs.NoticeLemmas.{says, walk_said}
use Rattle.cfi_stacks.proofs.VisitedSo.{AllOf}
use Rattle.cfi_stacks.proofs.visits.visit_records.Goals as goal

pub visit_index-requires : goal.visit_index-requires
visit_index-requires g c = subst (λ (known : Option (List ℕ)). IsIndex known c.in-Ok.index) (sym c.in-Ok.ensures.same) c.in-Ok.ensures.indexed

pub returns-in-Ok-clause-visited : goal.returns-in-Ok-clause-visited
returns-in-Ok-clause-visited g c =
    let visit = c.args.visit.now in
    of_index visit.with_functions (g.O.Opener.may_open visit.opener.now) g.O.File.Read.remaining
    (AllOf g.V.Visitor.visits g.V.Visitor.refuses visit.with_functions (choice_view visit.choice.now) (g.O.Opener.may_open visit.opener.now) g.O.File.Read.remaining (c.args.visitor.now, c.args.target.now) (c.visit_index.new.visitor, c.visit_index.new.target) c.visit_index.result)
    (g.I.FileInput.bytes c.args.input.now) c.in-Ok.index c.args.walk c.args.machine c.in-Ok.ensures.walk (rw c.in-Ok.ensures.same at c.visit_index.ensures.visited)

pub returns-in-Ok-clause-said : goal.returns-in-Ok-clause-said
returns-in-Ok-clause-said g c =
    says c.visit_index.result (walk_said (g.O.Opener.has_said c.args.visit.now.opener.now) (g.I.FileInput.bytes c.args.input.now) c.in-Ok.index c.args.walk c.in-Ok.ensures.told c.in-Ok.ensures.walk c.visit_index.ensures.said)

pub returns-in-Err-clause-visited : goal.returns-in-Err-clause-visited
returns-in-Err-clause-visited g c = inr (c.in-Err.error, refl, refl)
