use Rattle.std.proofs.Common.{Ok, Err, sym}
use Rattle.cfi_processes.proofs.ModuleLemmas.{still_of_files}
use Rattle.cfi_perf.specs.Samples.{sample_view}
use Rattle.cfi_processes.specs.Replays.{replay_known}
use Rattle.cfi_processes.proofs.RoomLemmas.{still_room_for}
use Rattle.cfi_stacks.specs.declared.visitor.VisitError.TheVariants.{Visitor}
use Rattle.cfi_stacks.specs.KnownSamples.{known_in}
use Rattle.cfi_stacks.specs.SampleOutputs.{stack_view}
use Rattle.cfi_stacks.specs.TakenSamples.{taken_of}
use Rattle.cfi_stacks.proofs.TakenLemmas.{stack_so, taken_as, taken_so, visited_as}
use Rattle.cfi_stacks.proofs.sample_visits.visit_sample.Goals as goal

pub walk_sample-found-requires-clause-files : goal.walk_sample-found-requires-clause-files
walk_sample-found-requires-clause-files g c =
    still_of_files c.args.replay.now.files.now c.code-2.result.files.now c.args.replay.now.modules.items c.modules.result.now c.code-2.ensures.files c.modules.ensures c.requires.own

pub walk_sample-found-requires-clause-cached : goal.walk_sample-found-requires-clause-cached
walk_sample-found-requires-clause-cached g c = still_room_for c.args.replay.now.files.now c.code-2.result.files.now c.args.room.now c.code-2.ensures.files c.requires.cached

pub returns-in-Ok-visit-clause-cached : goal.returns-in-Ok-visit-clause-cached
returns-in-Ok-visit-clause-cached g c = still_room_for c.code-2.result.files.now c.args.replay.now.files.now c.walk_sample-found.new.room (sym c.code-2.ensures.files) c.walk_sample-found.ensures.cached

pub returns-in_default-clause-cached : goal.returns-in_default-clause-cached
returns-in_default-clause-cached g c = still_room_for c.code-2.result.files.now c.args.replay.now.files.now c.walk_sample-found.new.room (sym c.code-2.ensures.files) c.walk_sample-found.ensures.cached

pub returns-in-Err-clause-cached : goal.returns-in-Err-clause-cached
returns-in-Err-clause-cached g c = still_room_for c.code-2.result.files.now c.args.replay.now.files.now c.walk_sample-found.new.room (sym c.code-2.ensures.files) c.walk_sample-found.ensures.cached

pub returns-in-Ok-visit-clause-visited : goal.returns-in-Ok-visit-clause-visited
returns-in-Ok-visit-clause-visited g c =
    let taken = taken_so c.code.result c.code-2.result c.name.result c.args.time c.args.sample.now in
    let found = c.walk_sample-found.result in
    let stack = stack_so c.args.chosen.now.with_functions taken found (stack_view c.stack.result) c.as_slice.result.now _ c.as_slice-walked.result.now c.walk_sample-found.new.room.frames.items c.stack.ensures c.as_slice.ensures.value c.in-Ok.ensures c.as_slice-walked.ensures.value in
    visited_as g.V.Visitor.visits g.V.Visitor.refuses c.args.chosen.now.with_functions c.args.chosen.now.machine (c.args.visitor.now, c.args.target.now) (c.visit.new.self, c.visit.new.target) (Ok tt) taken
    (taken_of (replay_known c.args.replay.now) (record { known = known_in c.args.replay.now; time = c.args.time; sample = sample_view c.args.sample.now }))
    (taken_as c.args.replay.now c.code.result c.code-2.result c.name.result c.args.time c.args.sample.now c.code.ensures.files c.code.ensures.mappings c.code-2.ensures.files c.code-2.ensures.mappings c.name.ensures)
    (_, (found, _, c.walk_sample-found.ensures.walked, stack), c.in-Ok-visit.ensures.visited)

pub returns-in-Err-clause-visited : goal.returns-in-Err-clause-visited
returns-in-Err-clause-visited g c =
    let taken = taken_so c.code.result c.code-2.result c.name.result c.args.time c.args.sample.now in
    let found = c.walk_sample-found.result in
    let stack = stack_so c.args.chosen.now.with_functions taken found (stack_view c.stack.result) c.as_slice.result.now _ c.as_slice-walked.result.now c.walk_sample-found.new.room.frames.items c.stack.ensures c.as_slice.ensures.value c.in-Ok.ensures c.as_slice-walked.ensures.value in
    visited_as g.V.Visitor.visits g.V.Visitor.refuses c.args.chosen.now.with_functions c.args.chosen.now.machine (c.args.visitor.now, c.args.target.now) (c.visit.new.self, c.visit.new.target) (Err (Visitor c.in-Err.error)) taken
    (taken_of (replay_known c.args.replay.now) (record { known = known_in c.args.replay.now; time = c.args.time; sample = sample_view c.args.sample.now }))
    (taken_as c.args.replay.now c.code.result c.code-2.result c.name.result c.args.time c.args.sample.now c.code.ensures.files c.code.ensures.mappings c.code-2.ensures.files c.code-2.ensures.mappings c.name.ensures)
    (_, (found, _, c.walk_sample-found.ensures.walked, stack), c.in-Err.ensures.refused)
