use Rattle.std.proofs.Common.{◌≡◌, ◌++◌, List, drop, map}
use Rattle.std.specs.List.{filter_map}
use Rattle.cfi_cores.specs.CoreSegments.{segment_view}
use Rattle.cfi_cores.specs.MappedFiles.{mapping_view}
use Rattle.cfi_mapped.specs.OpenedFiles.{AreOpenedAs, Opened}
use Rattle.cfi_core_stacks.specs.CoreWindows.{file_window}
use Rattle.cfi_core_stacks.proofs.core_windows.mapped_windows.Given as goal

abbrev pub invariant-loop-mapping : goal.invariant-loop-mapping
invariant-loop-mapping l =
    (all : List Opened) → AreOpenedAs l.opened all →
    map segment_view l.windows.items ++ filter_map (file_window all) (map mapping_view (drop l.mapping-index l.mapped)) ≡ filter_map (file_window all) (map mapping_view l.mapped)
