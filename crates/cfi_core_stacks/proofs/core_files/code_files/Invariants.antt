use Rattle.std.proofs.Common.{◌≡◌, drop, map}
use Rattle.std.specs.List.{fold}
use Rattle.cfi_cores.specs.CoreSegments.{segment_view}
use Rattle.cfi_cores.specs.MappedFiles.{mapping_view}
use Rattle.cfi_mapped.specs.WantedFiles.{with_file}
use Rattle.cfi_mapped.specs.Wanted.{wanted_view}
use Rattle.cfi_core_stacks.specs.CoreCode.{core_code_file, core_code_files}
use Rattle.cfi_core_stacks.proofs.core_files.code_files.Given as goal

abbrev pub invariant-loop-mapping : goal.invariant-loop-mapping
invariant-loop-mapping l =
    let segments = map segment_view l.segments in
    let mapped = map mapping_view l.mapped in
    fold (λ files m. with_file files (core_code_file segments mapped m)) (map wanted_view l.files) (map mapping_view (drop l.mapping-index l.mapped)) ≡ core_code_files segments mapped
