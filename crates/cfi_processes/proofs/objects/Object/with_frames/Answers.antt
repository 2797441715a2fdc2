use Rattle.std.proofs.Common.{ap, ◌∙◌, option_map}
use Rattle.cfi_read_core.specs.ByteOrder.{is_big}
use Rattle.cfi_read_core.specs.SliceReaders.{slice_position}
use Rattle.cfi_elf.specs.ElfFiles.{file_view}
use Rattle.gimli_cfi.specs.HeaderViews.{unparsed_view}
use Rattle.cfi_processes.specs.Objects.{code_addresses}
use Rattle.cfi_processes.proofs.objects.Object.with_frames.Goals as goal

pub returns : goal.returns
returns c =
    let sizes = ap (λ section. section.address_size) c.eh_frame.ensures in
    let headed = ap (λ size. option_map (λ header. unparsed_view (slice_position is_big) header size c.args.frames.bases) c.header.result) sizes ∙ c.header.ensures in
    λ i. record { addresses = code_addresses (file_view c.args.file); section = c.eh_frame.ensures i; header = headed i; debug = c.debug_made.ensures i }
