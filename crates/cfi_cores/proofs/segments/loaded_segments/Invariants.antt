use Rattle.std.proofs.Common.{◌≡◌, ◌++◌, map}
use Rattle.std.specs.List.{filter_map}
use Rattle.cfi_elf.specs.SegmentLists.{segments_left}
use Rattle.cfi_cores.specs.CoreSegments.{loaded_in, segment_view}
use Rattle.cfi_cores.proofs.segments.loaded_segments.Given as goal

-- the segments so far, and those of the headers that are left
abbrev pub invariant-loop-header : goal.invariant-loop-header
invariant-loop-header l =
    map segment_view l.list.items ++ filter_map (loaded_in l.bytes) (segments_left l.header-iterator)
    ≡ filter_map (loaded_in l.bytes) (segments_left l.fn.headers)
