use Rattle.std.proofs.Common.{◌≡◌, drop, map}
use Rattle.std.specs.List.{fold}
use Rattle.cfi_cores.specs.CoreSegments.{segment_view}
use Rattle.cfi_cores.specs.MappedFiles.{mapping_view}
use Rattle.cfi_processes.specs.KnownFiles.{known_view}
use Rattle.cfi_core_stacks.specs.CoreCode.{core_mappings, with_mapping}
use Rattle.cfi_core_stacks.proofs.core_code.mapped_code.Given as goal

abbrev pub invariant-loop-mapping : goal.invariant-loop-mapping
invariant-loop-mapping l =
    let files = map known_view l.files in
    let segments = map segment_view l.segments in
    fold (with_mapping files segments) l.mappings (map mapping_view (drop l.mapping-index l.mapped)) ≡ core_mappings files segments (map mapping_view l.mapped)
