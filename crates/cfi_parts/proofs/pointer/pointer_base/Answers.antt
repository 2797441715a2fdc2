use Rattle.std.proofs.Common.{◌≡◌, ◌∙◌, refl, rules, Some}
use Rattle.cfi_read_core.specs.PointerEncodings.{application_of}
use Rattle.cfi_parts.proofs.PointerReads.{pc_read}
use Rattle.cfi_parts.proofs.pointer.pointer_base.Goals as goal

pub returns-in_ok-base-in-DW_EH_PE_pcrel : goal.returns-in_ok-base-in-DW_EH_PE_pcrel
returns-in_ok-base-in-DW_EH_PE_pcrel g c =
    let is : application_of c.args.encoding.0 ≡ 1 = search rules in
    let has : c.args.parameters.now.bases.now.section ≡ Some c.in_ok-base-in-DW_EH_PE_pcrel.base = search rules in
    (pc_read _ _ _ _ is has (c.into_u64-place.ensures.value ∙ c.offset_from.ensures) c.bytes.ensures c.wrapping_add_sized.ensures, refl)
