use Rattle.std.proofs.Common.{ap, ◌∙◌}
use Rattle.cfi_read_core.specs.ByteOrder.{is_big}
use Rattle.cfi_read_core.specs.CallFrameSections.{DebugFrame}
use Rattle.cfi_read_core.specs.SliceReaders.{slice_position}
use Rattle.gimli_cfi.specs.SectionSources.{source_view}
use Rattle.gimli_cfi.proofs.SourceSections.{made_as}
use Rattle.cfi_processes.proofs.objects.debug_section.Goals as goal

pub returns : goal.returns
returns c =
    let stands = ap (slice_position is_big) (c.set_vendor.ensures.section ∙ c.set_address_size.ensures.section) ∙ c.new-frame.ensures.section in
    let sizes = ap (λ size. size.bytes) c.set_vendor.ensures.size ∙ c.set_address_size.ensures.size ∙ c.bytes.ensures in
    made_as DebugFrame (source_view c.args.source.now) _ _ _ stands sizes c.set_vendor.ensures.vendor
