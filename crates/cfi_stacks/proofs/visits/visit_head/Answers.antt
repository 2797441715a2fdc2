use Rattle.std.proofs.Common.{Err, inl, refl, subst, sym, ℕ}
use Rattle.cfi_perf.specs.ProfileHeads.{head_view}
use Rattle.cfi_perf.specs.Windows.{record_bytes_left}
use Rattle.cfi_stacks.specs.declared.visitor.VisitError.TheVariants.{Profile, UnknownMachine}
use Rattle.cfi_stacks.specs.Choices.{choice_view}
use Rattle.cfi_stacks.specs.ProfileIndexes.{HasRecordsAt}
use Rattle.cfi_stacks.proofs.ContentLemmas.{name_refused, no_machine, no_name, of_walk}
use Rattle.cfi_stacks.proofs.NoticeLemmas.{head_said, says_then}
use Rattle.cfi_stacks.proofs.VisitedSo.{AllOf, Refused, Unknown}
use Rattle.cfi_stacks.proofs.visits.visit_head.Goals as goal

pub visit_records-requires : goal.visit_records-requires
visit_records-requires g c =
    let known = g.I.FileInput.bytes c.args.input.now in
    subst (λ (n : ℕ). HasRecordsAt known n (record_bytes_left c.walk.result)) (sym c.walk.ensures.place) (subst (λ (n : ℕ). HasRecordsAt known (head_view c.args.head.now).place n) (sym c.walk.ensures.left) c.requires)

pub returns-in-Some-clause-visited : goal.returns-in-Some-clause-visited
returns-in-Some-clause-visited g c =
    let visit = c.args.visit.now in
    let named = rw c.in-Ok-Some.field-0-is at c.in-Ok-Some.ensures in
    of_walk visit.with_functions (g.O.Opener.may_open visit.opener.now) g.O.File.Read.remaining
    (AllOf g.V.Visitor.visits g.V.Visitor.refuses visit.with_functions (choice_view visit.choice.now) (g.O.Opener.may_open visit.opener.now) g.O.File.Read.remaining (c.args.visitor.now, c.args.target.now) (c.visit_records.new.visitor, c.visit_records.new.target) c.visit_records.result)
    (Refused g.V.Visitor.visits g.V.Visitor.refuses (c.args.visitor.now, c.args.target.now) (c.visit_records.new.visitor, c.visit_records.new.target) c.visit_records.result) (Unknown g.V.Visitor.visits g.V.Visitor.refuses (c.args.visitor.now, c.args.target.now) (c.visit_records.new.visitor, c.visit_records.new.target) c.visit_records.result)
    (g.I.FileInput.bytes c.args.input.now) (head_view c.args.head.now) c.walk.result c.in-Ok-Some.name.now c.in-Some.machine (sym named) (sym c.in-Some.ensures) c.walk.ensures.records c.walk.ensures.left c.walk.ensures.place c.visit_records.ensures.visited

pub returns-in-None-clause-visited : goal.returns-in-None-clause-visited
returns-in-None-clause-visited g c =
    let visit = c.args.visit.now in
    let named = rw c.in-Ok-Some.field-0-is at c.in-Ok-Some.ensures in
    inl (no_machine visit.with_functions (g.O.Opener.may_open visit.opener.now) g.O.File.Read.remaining
    (AllOf g.V.Visitor.visits g.V.Visitor.refuses visit.with_functions (choice_view visit.choice.now) (g.O.Opener.may_open visit.opener.now) g.O.File.Read.remaining (c.args.visitor.now, c.args.target.now) (c.args.visitor.now, c.args.target.now) (Err UnknownMachine))
    (Refused g.V.Visitor.visits g.V.Visitor.refuses (c.args.visitor.now, c.args.target.now) (c.args.visitor.now, c.args.target.now) (Err UnknownMachine)) (Unknown g.V.Visitor.visits g.V.Visitor.refuses (c.args.visitor.now, c.args.target.now) (c.args.visitor.now, c.args.target.now) (Err UnknownMachine))
    (g.I.FileInput.bytes c.args.input.now) (head_view c.args.head.now) c.in-Ok-Some.name.now c.requires (sym named) (sym c.in-None.ensures) (refl, refl))

pub returns-in-Ok-None-clause-visited : goal.returns-in-Ok-None-clause-visited
returns-in-Ok-None-clause-visited g c =
    let visit = c.args.visit.now in
    let named = rw c.in-Ok-None.field-0-is at c.in-Ok-None.ensures in
    inl (no_name visit.with_functions (g.O.Opener.may_open visit.opener.now) g.O.File.Read.remaining
    (AllOf g.V.Visitor.visits g.V.Visitor.refuses visit.with_functions (choice_view visit.choice.now) (g.O.Opener.may_open visit.opener.now) g.O.File.Read.remaining (c.args.visitor.now, c.args.target.now) (c.args.visitor.now, c.args.target.now) (Err UnknownMachine))
    (Refused g.V.Visitor.visits g.V.Visitor.refuses (c.args.visitor.now, c.args.target.now) (c.args.visitor.now, c.args.target.now) (Err UnknownMachine)) (Unknown g.V.Visitor.visits g.V.Visitor.refuses (c.args.visitor.now, c.args.target.now) (c.args.visitor.now, c.args.target.now) (Err UnknownMachine))
    (g.I.FileInput.bytes c.args.input.now) (head_view c.args.head.now) c.requires (sym named) (refl, refl))

pub returns-in-Err-clause-visited : goal.returns-in-Err-clause-visited
returns-in-Err-clause-visited g c =
    let visit = c.args.visit.now in
    inl (name_refused visit.with_functions (g.O.Opener.may_open visit.opener.now) g.O.File.Read.remaining
    (AllOf g.V.Visitor.visits g.V.Visitor.refuses visit.with_functions (choice_view visit.choice.now) (g.O.Opener.may_open visit.opener.now) g.O.File.Read.remaining (c.args.visitor.now, c.args.target.now) (c.args.visitor.now, c.args.target.now) (Err (Profile c.in-Err.error)))
    (Refused g.V.Visitor.visits g.V.Visitor.refuses (c.args.visitor.now, c.args.target.now) (c.args.visitor.now, c.args.target.now) (Err (Profile c.in-Err.error))) (Unknown g.V.Visitor.visits g.V.Visitor.refuses (c.args.visitor.now, c.args.target.now) (c.args.visitor.now, c.args.target.now) (Err (Profile c.in-Err.error)))
    (g.I.FileInput.bytes c.args.input.now) (head_view c.args.head.now) c.in-Err.error c.requires (sym c.in-Err.ensures) (refl, refl))

pub returns-in-Some-clause-said : goal.returns-in-Some-clause-said
returns-in-Some-clause-said g c =
    says_then c.visit_records.result
    (head_said (g.O.Opener.has_said c.args.visit.now.opener.now) (g.I.FileInput.bytes c.args.input.now) (head_view c.args.head.now) c.walk.result c.walk.ensures.records c.walk.ensures.left c.walk.ensures.place) c.visit_records.ensures.said
