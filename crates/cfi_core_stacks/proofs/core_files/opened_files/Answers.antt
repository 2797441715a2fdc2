use Rattle.std.proofs.Common.{◌∙◌, List, ap, ap₂, map}
use Rattle.cfi_cores.specs.declared.segments.CoreSegment.{CoreSegment}
use Rattle.cfi_cores.specs.declared.mapped_files.CoreMapping.{CoreMapping}
use Rattle.cfi_cores.specs.CoreFiles.{core_view}
use Rattle.cfi_cores.specs.CoreSegments.{segment_view}
use Rattle.cfi_cores.specs.MappedFiles.{mapping_view}
use Rattle.cfi_mapped.specs.Wanted.{wanted_view}
use Rattle.cfi_core_stacks.specs.CoreCode.{core_code_files}
use Rattle.cfi_core_stacks.proofs.VdsoFiles.{opened_for}
use Rattle.cfi_core_stacks.proofs.core_files.opened_files.Goals as goal

pub returns-clause-opened : goal.returns-clause-opened
returns-clause-opened g c =
    let (all, are, hold) = c.in_ok-opened.ensures.opened in
    let of_core = ap₂ (λ (segments : List CoreSegment) (mapped : List CoreMapping). core_code_files (map segment_view segments) (map mapping_view mapped)) c.as_slice.ensures.value c.as_slice-2.ensures.value in
    opened_for (g.O.Opener.may_open c.args.opener.now) g.O.File.Read.remaining (core_view c.args.core.now) (map wanted_view c.as_slice-3.result.now) all _
    (ap (map wanted_view) c.as_slice-3.ensures.value ∙ (c.in_ok-wanted.ensures ∙ of_core)) are (c.in_ok-push_vdso.ensures.opened all hold)
