use Rattle.std.proofs.Common.{ℕ, List, Option, Err, inr, refl, subst, sym}
use Rattle.cfi_perf.specs.ProfileHeads.{head_view}
use Rattle.cfi_stacks.specs.declared.visitor.VisitError.TheVariants.{Profile}
use Rattle.cfi_stacks.specs.Choices.{choice_view}
use Rattle.cfi_stacks.specs.ProfileIndexes.{HasRecordsAt}
use Rattle.cfi_frames.proofs.InputLemmas.{for_input}
use Rattle.cfi_stacks.proofs.AroundLemmas.{has_records}
use Rattle.cfi_stacks.proofs.ContentLemmas.{error_around, of_around}
use Rattle.cfi_stacks.proofs.NoticeLemmas.{around_said, says_then}
use Rattle.cfi_stacks.proofs.VisitedSo.{AllOf, Refused, Unknown}
use Rattle.cfi_stacks.proofs.visits.visit_profile.Goals as goal

pub visit_head-requires : goal.visit_head-requires
visit_head-requires g c =
    let around = c.in-Ok.around in
    let head = head_view c.in-Ok-Some.head in
    let read = rw (c.as_slice-before.ensures.value, c.as_slice.ensures.value) at (rw c.in-Ok-Some.field-0-is at c.in-Ok-Some.ensures.head) in
    subst (λ (known : Option (List ℕ)). HasRecordsAt known head.place head.size) (sym c.in-Ok.ensures.same)
    (has_records around.before.items around.behind.items around.length head (sym read) (g.I.FileInput.bytes c.args.input.now) c.in-Ok.ensures.read)

pub returns-in-Ok-Some-clause-visited : goal.returns-in-Ok-Some-clause-visited
returns-in-Ok-Some-clause-visited g c =
    let around = c.in-Ok.around in
    let read = rw (c.as_slice-before.ensures.value, c.as_slice.ensures.value) at (rw c.in-Ok-Some.field-0-is at c.in-Ok-Some.ensures.head) in
    of_around c.args.with_functions (g.O.Opener.may_open c.args.opener.now) g.O.File.Read.remaining
    (AllOf g.V.Visitor.visits g.V.Visitor.refuses c.args.with_functions (choice_view c.args.choice.now) (g.O.Opener.may_open c.args.opener.now) g.O.File.Read.remaining (c.args.visitor.now, c.args.target.now) (c.visit_head.new.visitor, c.visit_head.new.target) c.visit_head.result)
    (Refused g.V.Visitor.visits g.V.Visitor.refuses (c.args.visitor.now, c.args.target.now) (c.visit_head.new.visitor, c.visit_head.new.target) c.visit_head.result) (Unknown g.V.Visitor.visits g.V.Visitor.refuses (c.args.visitor.now, c.args.target.now) (c.visit_head.new.visitor, c.visit_head.new.target) c.visit_head.result)
    (g.I.FileInput.bytes c.args.input.now) (g.I.FileInput.bytes c.read_around.new.input) around.before.items around.behind.items around.length (head_view c.in-Ok-Some.head) c.in-Ok.ensures.read (sym read) c.in-Ok.ensures.same c.visit_head.ensures.visited

pub returns-in-Ok-None-clause-visited : goal.returns-in-Ok-None-clause-visited
returns-in-Ok-None-clause-visited g c =
    rw c.in-Ok.ensures.same at c.visit_whole.ensures.visited

pub returns-in-Ok-clause-visited : goal.returns-in-Ok-clause-visited
returns-in-Ok-clause-visited g c =
    let around = c.in-Ok.around in
    let read = rw (c.as_slice-before.ensures.value, c.as_slice.ensures.value) at c.in-Err-parse_around.ensures.head in
    error_around c.args.with_functions (g.O.Opener.may_open c.args.opener.now) g.O.File.Read.remaining
    (AllOf g.V.Visitor.visits g.V.Visitor.refuses c.args.with_functions (choice_view c.args.choice.now) (g.O.Opener.may_open c.args.opener.now) g.O.File.Read.remaining (c.args.visitor.now, c.args.target.now) (c.args.visitor.now, c.args.target.now) (Err (Profile c.in-Err-parse_around.error)))
    (Refused g.V.Visitor.visits g.V.Visitor.refuses (c.args.visitor.now, c.args.target.now) (c.args.visitor.now, c.args.target.now) (Err (Profile c.in-Err-parse_around.error))) (Unknown g.V.Visitor.visits g.V.Visitor.refuses (c.args.visitor.now, c.args.target.now) (c.args.visitor.now, c.args.target.now) (Err (Profile c.in-Err-parse_around.error)))
    (g.I.FileInput.bytes c.args.input.now) around.before.items around.behind.items around.length c.in-Err-parse_around.error c.in-Ok.ensures.read (sym read) (refl, refl)

pub returns-clause-visited : goal.returns-clause-visited
returns-clause-visited g c = for_input (g.I.FileInput.bytes c.args.input.now) _ (λ bytes. inr (c.in-Err.error, refl, refl))

pub returns-in-Ok-Some-clause-said : goal.returns-in-Ok-Some-clause-said
returns-in-Ok-Some-clause-said g c =
    let around = c.in-Ok.around in
    let read = rw (c.as_slice-before.ensures.value, c.as_slice.ensures.value) at (rw c.in-Ok-Some.field-0-is at c.in-Ok-Some.ensures.head) in
    says_then c.visit_head.result
    (around_said (g.O.Opener.has_said c.args.opener.now) (g.I.FileInput.bytes c.args.input.now) around.before.items around.behind.items around.length (head_view c.in-Ok-Some.head) c.in-Ok.ensures.read (sym read)) (rw c.in-Ok.ensures.same at c.visit_head.ensures.said)

pub returns-in-Ok-None-clause-said : goal.returns-in-Ok-None-clause-said
returns-in-Ok-None-clause-said g c = rw c.in-Ok.ensures.same at c.visit_whole.ensures.said
