use Rattle.std.proofs.Common.{◌≡◌, refl, inl, false, rules}
use Rattle.cfi_read_core.specs.PointerEncodings.{application_of, format_of, is_indirect}
use Rattle.gimli_cfi.specs.EhFrameHdr.{header_context}
use Rattle.gimli_cfi.specs.HeaderViews.{header_section_view}
use Rattle.gimli_cfi.proofs.RowPointers.{by_base, by_data_base}
use Rattle.gimli_cfi.proofs.hdr.row_fields.base_of_rows.Goals as goal

pub returns-in-DW_EH_PE_absptr-clause-read : goal.returns-in-DW_EH_PE_absptr-clause-read
returns-in-DW_EH_PE_absptr-clause-read g c =
    let e = c.args.hdr.now.table_enc.0 in
    let is_format : format_of e ≡ 0x0b = search rules in
    let is_direct : is_indirect e ≡ false = search rules in
    let plain : application_of e ≡ 0 = search rules in
    by_base e (header_context (header_section_view g.R.Reader.position c.args.hdr.now c.args.bases.now)) is_format is_direct (search rules) 0 (inl (plain, refl))

pub returns-in-DW_EH_PE_datarel-clause-read : goal.returns-in-DW_EH_PE_datarel-clause-read
returns-in-DW_EH_PE_datarel-clause-read g c =
    let e = c.args.hdr.now.table_enc.0 in
    let is_format : format_of e ≡ 0x0b = search rules in
    let is_direct : is_indirect e ≡ false = search rules in
    let relative : application_of e ≡ 3 = search rules in
    by_data_base e (header_context (header_section_view g.R.Reader.position c.args.hdr.now c.args.bases.now)) is_format is_direct (search rules) relative _ refl
