use Rattle.std.proofs.Common.{[], Ok, Err, inl, refl, sym, ◌∙◌}
use Rattle.cfi_perf.specs.Samples.{sample_view}
use Rattle.cfi_processes.specs.Replays.{replay_known}
use Rattle.cfi_stacks.specs.Choices.{choice_view}
use Rattle.cfi_stacks.specs.KnownSamples.{known_in}
use Rattle.cfi_processes.proofs.RoomLemmas.{still_room_for}
use Rattle.cfi_stacks.proofs.VisitLemmas.{chosen_stopped, chosen_visited, sample_of}
use Rattle.cfi_stacks.proofs.sample_visits.visit_chosen.Goals as goal

pub returns-then-is_left_out-clause-visited : goal.returns-then-is_left_out-clause-visited
returns-then-is_left_out-clause-visited g c =
    ([], inl (sym c.is_left_out.ensures ∙ c.if-is_left_out.true, refl, refl, refl), refl)

pub returns-in-Ok-visit_sample-clause-visited : goal.returns-in-Ok-visit_sample-clause-visited
returns-in-Ok-visit_sample-clause-visited g c =
    let chosen = c.args.chosen.now in
    let s = sample_view c.args.sample.now in
    let now = known_in c.load.new.self in
    let visited = sample_of g.V.Visitor.visits g.V.Visitor.refuses chosen.with_functions chosen.machine (record { known = now; time = c.args.time; sample = s }) (c.args.visitor.now, c.args.target.now) (c.visit_sample.new.visitor, c.visit_sample.new.target) c.load.new.self.files.now c.args.walker.now.replay.files.now (Ok tt) c.in-Ok.ensures.files c.in-Ok-visit_sample.ensures.visited in
    chosen_visited g.V.Visitor.visits g.V.Visitor.refuses chosen.with_functions chosen.machine (replay_known c.args.walker.now.replay) (choice_view chosen.choice.now) c.args.time s (known_in c.args.walker.now.replay) now c.args.left c.one_less.result
    (c.args.visitor.now, c.args.target.now) (c.visit_sample.new.visitor, c.visit_sample.new.target) (sym c.is_left_out.ensures ∙ c.if-is_left_out.false) (c.in-Ok.ensures.processes, c.in-Ok.ensures.names) c.one_less.ensures visited

pub returns-in-Err-visit_sample-clause-visited : goal.returns-in-Err-visit_sample-clause-visited
returns-in-Err-visit_sample-clause-visited g c =
    let chosen = c.args.chosen.now in
    let s = sample_view c.args.sample.now in
    let now = known_in c.load.new.self in
    let visited = sample_of g.V.Visitor.visits g.V.Visitor.refuses chosen.with_functions chosen.machine (record { known = now; time = c.args.time; sample = s }) (c.args.visitor.now, c.args.target.now) (c.visit_sample.new.visitor, c.visit_sample.new.target) c.load.new.self.files.now c.args.walker.now.replay.files.now (Err c.in-Err-visit_sample.error) c.in-Ok.ensures.files c.in-Err-visit_sample.ensures.visited in
    chosen_stopped g.V.Visitor.visits g.V.Visitor.refuses chosen.with_functions chosen.machine (replay_known c.args.walker.now.replay) (choice_view chosen.choice.now) c.args.time s (known_in c.args.walker.now.replay) now c.args.left
    (c.args.visitor.now, c.args.target.now) (c.visit_sample.new.visitor, c.visit_sample.new.target) c.in-Err-visit_sample.error (sym c.is_left_out.ensures ∙ c.if-is_left_out.false) (c.in-Ok.ensures.processes, c.in-Ok.ensures.names) visited

pub visit_sample-requires-clause-own : goal.visit_sample-requires-clause-own
visit_sample-requires-clause-own g c = c.in-Ok.ensures.own c.requires.own

pub visit_sample-requires-clause-cached : goal.visit_sample-requires-clause-cached
visit_sample-requires-clause-cached g c = still_room_for c.args.walker.now.replay.files.now c.load.new.self.files.now c.args.walker.now.room c.in-Ok.ensures.files c.requires.cached

pub returns-in-Ok-visit_sample-clause-own : goal.returns-in-Ok-visit_sample-clause-own
returns-in-Ok-visit_sample-clause-own g c = c.in-Ok.ensures.own c.requires.own

pub returns-in-Err-visit_sample-clause-own : goal.returns-in-Err-visit_sample-clause-own
returns-in-Err-visit_sample-clause-own g c = c.in-Ok.ensures.own c.requires.own

pub returns-in-Err-clause-own : goal.returns-in-Err-clause-own
returns-in-Err-clause-own g c = c.in-Err.ensures.own c.requires.own

pub returns-in-Err-clause-cached : goal.returns-in-Err-clause-cached
returns-in-Err-clause-cached g c = still_room_for c.args.walker.now.replay.files.now c.load.new.self.files.now c.args.walker.now.room c.in-Err.ensures.files c.requires.cached
