use Rattle.std.proofs.Common.{refl, map}
use Rattle.std.specs.List.{filter_map}
use Rattle.cfi_cores.specs.CoreSegments.{segment_view}
use Rattle.cfi_cores.specs.MappedFiles.{mapping_view}
use Rattle.cfi_core_stacks.specs.CoreWindows.{AreKnownWindows, AreWindows, file_window}
use Rattle.cfi_core_stacks.proofs.KnownLemmas.{each_ok}
use Rattle.cfi_core_stacks.proofs.SortedWindows.{windows_of, windows_sorted}
use Rattle.cfi_core_stacks.proofs.core_windows.known_windows.Goals as goal

pub returns-then-is_whole-clause-windows : goal.returns-then-is_whole-clause-windows
returns-then-is_whole-clause-windows c = λ all hold.
    let mapped = map mapping_view c.args.mapped.now in
    each_ok c.file_windows.result (λ windows. AreWindows all mapped (map segment_view windows.items)) (λ windows. AreKnownWindows c.args.is_whole all mapped (map segment_view windows.items))
    (λ windows are. (map segment_view windows.items, are, λ whole. refl)) (c.file_windows.ensures.windows all hold)

pub returns-else-is_whole-clause-windows : goal.returns-else-is_whole-clause-windows
returns-else-is_whole-clause-windows c = λ all hold.
    let found = filter_map (file_window all) (map mapping_view c.args.mapped.now) in
    (windows_of found, windows_sorted found, λ whole. absurd (cc))
