use Rattle.std.proofs.Common.{List, map, subst}
use Rattle.cfi_cores.specs.declared.mapped_files.CoreMapping.{CoreMapping}
use Rattle.cfi_cores.specs.CoreSegments.{segment_view}
use Rattle.cfi_cores.specs.MappedFiles.{mapping_view}
use Rattle.cfi_core_stacks.specs.CoreWindows.{AreKnownWindows}
use Rattle.cfi_core_stacks.proofs.core_code.core_code.Goals as goal

pub returns-clause-windows : goal.returns-clause-windows
returns-clause-windows c = λ all hold.
    subst (λ (list : List CoreMapping). AreKnownWindows c.args.is_whole all (map mapping_view list) (map segment_view c.in_ok-windows.windows.items)) c.as_slice-mapped.ensures.value (c.in_ok-windows.ensures.windows all hold)
