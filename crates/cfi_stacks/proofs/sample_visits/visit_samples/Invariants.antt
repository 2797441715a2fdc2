use Rattle.std.proofs.Common.{◌≡◌, map}
use Rattle.cfi_perf.specs.Indexes.{places_of}
use Rattle.cfi_processes.specs.KnownFiles.{known_view}
use Rattle.cfi_processes.specs.Replays.{HasOwnModules}
use Rattle.cfi_stacks.specs.Choices.{choice_view}
use Rattle.cfi_stacks.specs.KnownSamples.{known_in}
use Rattle.cfi_processes.specs.Rooms.{IsRoomFor}
use Rattle.cfi_stacks.proofs.VisitLemmas.{SoFar}
use Rattle.cfi_stacks.proofs.sample_visits.visit_samples.Given as goal

abbrev pub invariant-loop-place : goal.invariant-loop-place
invariant-loop-place g l =
    (l.walker.replay.files.now ≡ l.files)
    × (l.place-items ≡ places_of l.chosen.index.now.records)
    × SoFar g.V.Visitor.visits g.V.Visitor.refuses l.chosen.with_functions l.chosen.machine (map known_view l.files) (choice_view l.chosen.choice.now) (g.I.FileInput.bytes l.initial.input) l.chosen.index.now l.place-index l.left (known_in l.walker.replay) (l.initial.visitor, l.initial.target) (l.visitor, l.target)
    × IsRoomFor l.files l.walker.room
    × HasOwnModules l.walker.replay
    × (g.I.FileInput.bytes l.input ≡ g.I.FileInput.bytes l.initial.input)
