use Rattle.std.proofs.Common.{◌∙◌, List, get_or, map, refl, subst, sym}
use Rattle.cfi_text.specs.declared.reading.InputError.TheVariants.{OutOfMemory}
use Rattle.cfi_perf.specs.declared.index.PlaceKind.TheVariants.{InFile}
use Rattle.cfi_perf.specs.declared.index.RecordPlace.{RecordPlace}
use Rattle.cfi_processes.specs.declared.profile_files.ProfileFile.{ProfileFile}
use Rattle.cfi_processes.specs.KnownFiles.{known_view}
use Rattle.cfi_stacks.specs.Choices.{choice_view}
use Rattle.cfi_stacks.specs.KnownSamples.{known_in}
use Rattle.cfi_processes.specs.Rooms.{IsRoomFor}
use Rattle.cfi_processes.proofs.RoomLemmas.{room_for_all}
use Rattle.cfi_stacks.proofs.VisitLemmas.{after_turn, all_visited, many_visited, none_visited, place_at, place_inside, places_passed, stopped_first, stopped_turn, turn_of}
use Rattle.cfi_stacks.proofs.sample_visits.visit_samples.Goals as goal

pub loop-place-init : goal.loop-place-init
loop-place-init g c = (
  c.new-replay.ensures.files,
  c.places-place-items.ensures,
  none_visited g.V.Visitor.visits g.V.Visitor.refuses c.args.chosen.now.with_functions c.args.chosen.now.machine (map known_view c.args.files.now) (choice_view c.args.chosen.now.choice.now) (g.I.FileInput.bytes c.args.input.now) c.args.chosen.now.index.now (known_in c.new-replay.result) (c.args.visitor.now, c.args.target.now) c.requires
      c.new-replay.ensures.nothing c.new-replay.ensures.nameless,
  room_for_all c.args.files.now c.in-Ok.room c.in-Ok.ensures.frames c.in-Ok.ensures.rows,
  c.new-replay.ensures.own,
  refl,
)

pub loop-place-preserved : goal.loop-place-preserved
loop-place-preserved g c =
    let files = map known_view c.args.files.now in
    let choice = choice_view c.args.chosen.now.choice.now in
    let known = g.I.FileInput.bytes c.args.input.now in
    let index = c.args.chosen.now.index.now in
    let items = c.places-place-items.result.now in
    let i = c.loop-place.place-index in
    let (same_files, are, so, cached, own, same) = c.loop-place.invariant in
    let before = known_in c.loop-place.walker.replay in
    let now = known_in c.visit_place.new.walker.replay in
    let d : RecordPlace = record { time = 0; offset = 0; size = 0; kind = InFile } in
    let place = get_or items i d in
    let turn = turn_of g.V.Visitor.visits g.V.Visitor.refuses c.args.chosen.now.with_functions c.args.chosen.now.machine choice index place before now c.loop-place.left (c.loop-place.visitor, c.loop-place.target) (c.visit_place.new.visitor, c.visit_place.new.target) c.loop-place.walker.replay.files.now c.args.files.now (g.I.FileInput.bytes c.loop-place.input) known _ same_files same c.in-Ok-visit_place.ensures.visited in (
      c.in-Ok-visit_place.ensures.files ∙ same_files,
      are,
      after_turn g.V.Visitor.visits g.V.Visitor.refuses c.args.chosen.now.with_functions c.args.chosen.now.machine files choice known index i place c.loop-place.left before now (c.args.visitor.now, c.args.target.now) (c.loop-place.visitor, c.loop-place.target) (c.visit_place.new.visitor, c.visit_place.new.target) (place_inside items index i are c.loop-place-test.true) (place_at items index i d are c.loop-place-test.true)
          (sym c.eq.ensures ∙ c.if-eq.false) c.in-Ok-visit_place.more so turn,
      subst (λ (loaded : List ProfileFile). IsRoomFor loaded c.visit_place.new.walker.room) (c.in-Ok-visit_place.ensures.files ∙ same_files) c.in-Ok-visit_place.ensures.cached,
      c.in-Ok-visit_place.ensures.own,
      c.in-Ok-visit_place.ensures.same ∙ same,
    )

pub returns : goal.returns
returns g c =
    let (same_files, are, so, cached, own, same) = c.loop-place.invariant in
    all_visited g.V.Visitor.visits g.V.Visitor.refuses c.args.chosen.now.with_functions c.args.chosen.now.machine (map known_view c.args.files.now) (choice_view c.args.chosen.now.choice.now) (g.I.FileInput.bytes c.args.input.now) c.args.chosen.now.index.now c.loop-place.place-index c.loop-place.left (known_in c.loop-place.walker.replay)
    (c.args.visitor.now, c.args.target.now) (c.loop-place.visitor, c.loop-place.target) c.ended-2.result c.ended-2.ensures (places_passed c.places-place-items.result.now c.args.chosen.now.index.now c.loop-place.place-index are c.loop-place-test.false) so

pub returns-then-eq : goal.returns-then-eq
returns-then-eq g c =
    let (same_files, are, so, cached, own, same) = c.loop-place.invariant in
    many_visited g.V.Visitor.visits g.V.Visitor.refuses c.args.chosen.now.with_functions c.args.chosen.now.machine (map known_view c.args.files.now) (choice_view c.args.chosen.now.choice.now) (g.I.FileInput.bytes c.args.input.now) c.args.chosen.now.index.now c.loop-place.place-index c.loop-place.left (known_in c.loop-place.walker.replay)
    (c.args.visitor.now, c.args.target.now) (c.loop-place.visitor, c.loop-place.target) c.ended.result c.ended.ensures (sym c.eq.ensures ∙ c.if-eq.true) so

pub returns-in-Err : goal.returns-in-Err
returns-in-Err g c =
    let files = map known_view c.args.files.now in
    let choice = choice_view c.args.chosen.now.choice.now in
    let known = g.I.FileInput.bytes c.args.input.now in
    let index = c.args.chosen.now.index.now in
    let items = c.places-place-items.result.now in
    let i = c.loop-place.place-index in
    let (same_files, are, so, cached, own, same) = c.loop-place.invariant in
    let before = known_in c.loop-place.walker.replay in
    let now = known_in c.visit_place.new.walker.replay in
    let d : RecordPlace = record { time = 0; offset = 0; size = 0; kind = InFile } in
    let place = get_or items i d in
    let turn = turn_of g.V.Visitor.visits g.V.Visitor.refuses c.args.chosen.now.with_functions c.args.chosen.now.machine choice index place before now c.loop-place.left (c.loop-place.visitor, c.loop-place.target) (c.visit_place.new.visitor, c.visit_place.new.target) c.loop-place.walker.replay.files.now c.args.files.now (g.I.FileInput.bytes c.loop-place.input) known _ same_files same c.in-Err.ensures.visited in
    stopped_turn g.V.Visitor.visits g.V.Visitor.refuses c.args.chosen.now.with_functions c.args.chosen.now.machine files choice known index i place c.loop-place.left before now (c.args.visitor.now, c.args.target.now) (c.loop-place.visitor, c.loop-place.target) (c.visit_place.new.visitor, c.visit_place.new.target) (place_inside items index i are c.loop-place-test.true) (place_at items index i d are c.loop-place-test.true)
    (sym c.eq.ensures ∙ c.if-eq.false) c.in-Err.error so turn

pub visit_place-requires-clause-cached : goal.visit_place-requires-clause-cached
visit_place-requires-clause-cached g c =
    let (same_files, are, so, cached, own, same) = c.loop-place.invariant in
    subst (λ (loaded : List ProfileFile). IsRoomFor loaded c.loop-place.walker.room) (sym same_files) cached

pub returns-in_default : goal.returns-in_default
returns-in_default g c =
    stopped_first g.V.Visitor.visits g.V.Visitor.refuses c.args.chosen.now.with_functions c.args.chosen.now.machine (map known_view c.args.files.now) (choice_view c.args.chosen.now.choice.now) (g.I.FileInput.bytes c.args.input.now) c.args.chosen.now.index.now (c.args.visitor.now, c.args.target.now) OutOfMemory c.requires
