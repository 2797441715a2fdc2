use Rattle.std.proofs.Common.{◌∙◌, ap, arith, length, map, rules, sym}
use Rattle.std.proofs.lemmas.Grind.{common_steps}
use Rattle.cfi_perf.specs.Samples.{user_view}
use Rattle.cfi_step.specs.ModuleLists.{module_list}
use Rattle.cfi_processes.specs.KnownFiles.{known_view}
use Rattle.cfi_processes.specs.Modules.{loaded_module_view}
use Rattle.cfi_processes.proofs.CodeLemmas.{modules_sorted}
use Rattle.cfi_processes.proofs.RoomLemmas.{numbered_before, refill-same, room_after, rows_after, rows_before}
use Rattle.cfi_stacks.proofs.SampleWalks.{sample_fits}
use Rattle.cfi_stacks.proofs.sample_walk.walk_sample.Goals as goal

pub unreachable-requires : goal.unreachable-requires
unreachable-requires c =
    c.in_default.ensures.sorted (modules_sorted (map known_view c.args.code.now.files.now) c.args.code.now.mappings.now c.args.modules.now c.requires.order c.requires.modules)

pub returns-clause-walked : goal.returns-clause-walked
returns-clause-walked c = (
  module_list c.in-Ok.modules,
  _,
  _,
  ap (map loaded_module_view) c.in-Ok.ensures.sorted.1 ∙ c.requires.modules,
  ap length c.as_mut_slice-2.ensures.value ∙ c.requires.cached.0,
  grind (arith, common_steps),
  c.unwind_sample.ensures.unwound,
  sym (refill-same c.args.room.now.frames.len c.args.room.now.frames.items c.unwind_sample.new.frames (search rules)),
  room_after c.args.room.now.frames.len c.args.room.now.frames.items c.unwind_sample.new.frames (search rules) c.requires.cached.0,
)

pub unwind_sample-requires-clause-numbered : goal.unwind_sample-requires-clause-numbered
unwind_sample-requires-clause-numbered c =
    numbered_before c.args.code.now.files.now c.args.modules.now (module_list c.in-Ok.modules) c.in-Ok.ensures.sorted.1 c.requires.files

pub unwind_sample-requires-clause-cached : goal.unwind_sample-requires-clause-cached
unwind_sample-requires-clause-cached c =
    rows_before c.args.code.now.files.now c.args.modules.now (module_list c.in-Ok.modules) c.in-Ok.ensures.sorted.1 c.requires.files
    c.args.room.now.cache.items c.as_mut_slice.result.now c.as_mut_slice.ensures.value c.requires.cached.1

pub returns-clause-cached : goal.returns-clause-cached
returns-clause-cached c = (
  room_after c.args.room.now.frames.len c.args.room.now.frames.items c.unwind_sample.new.frames (search rules) c.requires.cached.0,
  rows_after c.args.code.now.files.now c.args.modules.now (module_list c.in-Ok.modules) c.in-Ok.ensures.sorted.1 c.requires.files
      c.args.room.now.cache.len c.args.room.now.cache.items c.as_mut_slice.result.now c.unwind_sample.new.cache (search rules) c.as_mut_slice.ensures.value c.requires.cached.1
      c.unwind_sample.ensures.kept,
)

pub returns-clause-count : goal.returns-clause-count
returns-clause-count c =
    sample_fits (module_list c.in-Ok.modules) c.args.machine _ c.unwind_sample.result _ (user_view c.args.user.now) c.args.room.now.frames.len c.args.room.now.frames.items (search rules) c.unwind_sample.ensures.unwound
