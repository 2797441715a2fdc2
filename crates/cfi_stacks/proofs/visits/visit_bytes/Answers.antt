use Rattle.std.proofs.Common.{Err, Some, refl, subst, sym}
use Rattle.cfi_perf.specs.ProfileHeads.{ProfileHead, head_view}
use Rattle.cfi_perf.specs.Profiles.{profile_view}
use Rattle.cfi_stacks.specs.declared.visitor.VisitError.TheVariants.{Profile}
use Rattle.cfi_stacks.specs.Choices.{choice_view}
use Rattle.cfi_stacks.specs.ProfileIndexes.{HasRecordsAt}
use Rattle.cfi_stacks.proofs.AroundLemmas.{has_own_records}
use Rattle.cfi_stacks.proofs.ContentLemmas.{not_parsed, of_parsed}
use Rattle.cfi_stacks.proofs.NoticeLemmas.{parsed_said, says_then}
use Rattle.cfi_stacks.proofs.VisitedSo.{AllOf, Refused, Unknown}
use Rattle.cfi_stacks.proofs.visits.visit_bytes.Goals as goal

pub visit_head-requires : goal.visit_head-requires
visit_head-requires g c =
    subst (λ (head : ProfileHead). HasRecordsAt (Some c.args.bytes.now) head.place head.size) (sym c.head-head.ensures) (has_own_records c.args.bytes.now (profile_view c.in-Ok.profile) (sym c.in-Ok.ensures))

pub returns-in-Ok-clause-visited : goal.returns-in-Ok-clause-visited
returns-in-Ok-clause-visited g c =
    let visit = c.args.visit.now in
    of_parsed visit.with_functions (g.O.Opener.may_open visit.opener.now) g.O.File.Read.remaining
    (AllOf g.V.Visitor.visits g.V.Visitor.refuses visit.with_functions (choice_view visit.choice.now) (g.O.Opener.may_open visit.opener.now) g.O.File.Read.remaining (c.args.visitor.now, c.args.target.now) (c.visit_head.new.visitor, c.visit_head.new.target) c.visit_head.result)
    (Refused g.V.Visitor.visits g.V.Visitor.refuses (c.args.visitor.now, c.args.target.now) (c.visit_head.new.visitor, c.visit_head.new.target) c.visit_head.result) (Unknown g.V.Visitor.visits g.V.Visitor.refuses (c.args.visitor.now, c.args.target.now) (c.visit_head.new.visitor, c.visit_head.new.target) c.visit_head.result)
    c.args.bytes.now (profile_view c.in-Ok.profile) (head_view c.head-head.result) (sym c.in-Ok.ensures) c.head-head.ensures c.visit_head.ensures.visited

pub returns-in-Ok-clause-said : goal.returns-in-Ok-clause-said
returns-in-Ok-clause-said g c =
    says_then c.visit_head.result
    (parsed_said (g.O.Opener.has_said c.args.visit.now.opener.now) c.args.bytes.now (profile_view c.in-Ok.profile) (head_view c.head-head.result) (sym c.in-Ok.ensures) c.head-head.ensures) c.visit_head.ensures.said

pub returns-in-Err-clause-visited : goal.returns-in-Err-clause-visited
returns-in-Err-clause-visited g c =
    let visit = c.args.visit.now in
    not_parsed visit.with_functions (g.O.Opener.may_open visit.opener.now) g.O.File.Read.remaining
    (AllOf g.V.Visitor.visits g.V.Visitor.refuses visit.with_functions (choice_view visit.choice.now) (g.O.Opener.may_open visit.opener.now) g.O.File.Read.remaining (c.args.visitor.now, c.args.target.now) (c.args.visitor.now, c.args.target.now) (Err (Profile c.in-Err.error)))
    (Refused g.V.Visitor.visits g.V.Visitor.refuses (c.args.visitor.now, c.args.target.now) (c.args.visitor.now, c.args.target.now) (Err (Profile c.in-Err.error))) (Unknown g.V.Visitor.visits g.V.Visitor.refuses (c.args.visitor.now, c.args.target.now) (c.args.visitor.now, c.args.target.now) (Err (Profile c.in-Err.error)))
    c.args.bytes.now c.in-Err.error (sym c.in-Err.ensures) (refl, refl)
