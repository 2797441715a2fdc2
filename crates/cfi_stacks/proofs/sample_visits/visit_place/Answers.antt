use Rattle.std.proofs.Common.{inl, refl}
use Rattle.cfi_processes.specs.Replays.{replay_known}
use Rattle.cfi_stacks.specs.Choices.{choice_view}
use Rattle.cfi_stacks.specs.KnownSamples.{known_in}
use Rattle.cfi_processes.proofs.RoomLemmas.{still_room_for}
use Rattle.cfi_stacks.proofs.VisitLemmas.{other_visited}
use Rattle.cfi_stacks.proofs.sample_visits.visit_place.Goals as goal

pub returns-in-Ok-follow_other-clause-visited : goal.returns-in-Ok-follow_other-clause-visited
returns-in-Ok-follow_other-clause-visited g c =
    other_visited g.V.Visitor.visits g.V.Visitor.refuses c.args.chosen.now.with_functions c.args.chosen.now.machine (replay_known c.args.walker.now.replay) (choice_view c.args.chosen.now.choice.now) (g.I.FileInput.bytes c.args.input.now) c.args.chosen.now.index.now c.args.place.now (known_in c.args.walker.now.replay) (known_in c.follow_other.new.replay)
    c.args.left c.in-Ok-follow_other.left (c.args.visitor.now, c.args.target.now) c.in-Ok-follow_other.ensures.followed

pub returns-in-Ok-follow_other-clause-own : goal.returns-in-Ok-follow_other-clause-own
returns-in-Ok-follow_other-clause-own g c = c.in-Ok-follow_other.ensures.own c.requires.own

pub returns-in-Ok-follow_other-clause-cached : goal.returns-in-Ok-follow_other-clause-cached
returns-in-Ok-follow_other-clause-cached g c = still_room_for c.args.walker.now.replay.files.now c.follow_other.new.replay.files.now c.args.walker.now.room c.in-Ok-follow_other.ensures.files c.requires.cached

pub returns-in-Err-follow_other-clause-visited : goal.returns-in-Err-follow_other-clause-visited
returns-in-Err-follow_other-clause-visited g c = inl (c.in-Err-follow_other.error, refl, refl)

pub returns-in-Err-follow_other-clause-own : goal.returns-in-Err-follow_other-clause-own
returns-in-Err-follow_other-clause-own g c = c.in-Err-follow_other.ensures.own c.requires.own

pub returns-in-Err-follow_other-clause-cached : goal.returns-in-Err-follow_other-clause-cached
returns-in-Err-follow_other-clause-cached g c = still_room_for c.args.walker.now.replay.files.now c.follow_other.new.replay.files.now c.args.walker.now.room c.in-Err-follow_other.ensures.files c.requires.cached
