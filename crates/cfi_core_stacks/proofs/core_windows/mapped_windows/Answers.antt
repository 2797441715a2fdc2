use Rattle.std.proofs.Common.{◌∙◌, ◌+◌, ◌++◌, ap, drop, map, option_map, sym}
use Rattle.std.specs.List.{filter_map}
use Rattle.cfi_cores.specs.CoreSegments.{segment_view}
use Rattle.cfi_cores.specs.MappedFiles.{mapping_view}
use Rattle.cfi_core_stacks.specs.CoreWindows.{file_window}
use Rattle.cfi_core_stacks.proofs.CoreLemmas.{kept_next, left_out}
use Rattle.cfi_core_stacks.proofs.core_windows.mapped_windows.Goals.{in-Some+in_ok-push, in_default}
use Rattle.cfi_core_stacks.proofs.core_windows.mapped_windows.Goals as goal

pub loop-mapping-preserved : goal.loop-mapping-preserved
loop-mapping-preserved c = λ all hold.
    let window = file_window all in
    let mapped = c.args.mapped.now in
    let i = c.loop-mapping.mapping-index in
    elim c.match-file_window.branch [
      | in-Some+in_ok-push w ↦
          kept_next mapping_view mapped i window _ c.loop-mapping-test.true segment_view c.loop-mapping.windows.items c.match-file_window.windows.items w.in-Some.window _
          (ap (λ list. list.items) w.windows-is ∙ w.in_ok-push.ensures.items) (sym (ap (option_map segment_view) w.in-Some.is) ∙ c.file_window.ensures all hold) (c.loop-mapping.invariant all hold)
      | in_default w ↦
          ap (λ list. map segment_view list.items ++ filter_map window (map mapping_view (drop (i + 1) mapped))) w.windows-is
          ∙ left_out mapping_view mapped i window _ c.loop-mapping-test.true (map segment_view c.loop-mapping.windows.items) _
          (sym (ap (option_map segment_view) w.in_default.is) ∙ c.file_window.ensures all hold) (c.loop-mapping.invariant all hold)
    ]
