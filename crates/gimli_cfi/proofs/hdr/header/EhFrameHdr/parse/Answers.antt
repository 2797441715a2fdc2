use Rattle.std.proofs.Common.{◌≡◌, ◌∙◌, Ok, Err, ap, rules}
use Rattle.cfi_read_core.specs.declared.error.Error.TheVariants.{UnknownVersion}
use Rattle.cfi_read_core.proofs.Onward.{onward_unsigned}
use Rattle.cfi_parts.proofs.InstructionLemmas.{onward_pointer}
use Rattle.cfi_entry.proofs.EntryReads.{onward_encoding_byte}
use Rattle.cfi_entry.proofs.Within.{behind_of}
use Rattle.gimli_cfi.proofs.HeaderReads.{header_by_count, header_refused, onward_row_count, whole_of}
use Rattle.gimli_cfi.proofs.hdr.header.EhFrameHdr.parse.Goals as goal

pub parse_encoded_pointer-requires :
    goal.parse_encoded_pointer-requires
parse_encoded_pointer-requires g c =
    let sound = g.met.R.Reader.sound c.args.self.now.0 in
    let version = behind_of (onward_unsigned _) c.read_u8.ensures (whole_of sound) in
    let first = behind_of onward_encoding_byte c.parse_pointer_encoding.ensures version in
    let second = behind_of onward_encoding_byte c.parse_pointer_encoding-2.ensures first in
    let third = behind_of onward_encoding_byte c.parse_pointer_encoding-3.ensures second in
    third.first

pub invariant_of-result : goal.invariant_of-result
invariant_of-result g c =
    let sound = g.met.R.Reader.sound c.args.self.now.0 in
    let version = behind_of (onward_unsigned _) c.read_u8.ensures (whole_of sound) in
    let first = behind_of onward_encoding_byte c.parse_pointer_encoding.ensures version in
    let second = behind_of onward_encoding_byte c.parse_pointer_encoding-2.ensures first in
    let third = behind_of onward_encoding_byte c.parse_pointer_encoding-3.ensures second in
    let pointer = behind_of (onward_pointer _ _) c.parse_encoded_pointer.ensures third in
    record { of_section = behind_of (onward_row_count _ _ _) c.read_row_count.ensures pointer }

pub returns-then-version-ne1-clause-read : goal.returns-then-version-ne1-clause-read
returns-then-version-ne1-clause-read g c =
    ap (λ n. Err (UnknownVersion n)) c.from.ensures
    ∙ header_refused (g.R.Reader.position c.args.self.now.0) c.args.address_size c.args.bases.now.eh_frame_hdr c.in_ok-version.ensures c.if-version-ne1.true

pub returns-in_err-fde_count-clause-read : goal.returns-in_err-fde_count-clause-read
returns-in_err-fde_count-clause-read g c =
    let gives : c.from_residual-in_err-fde_count.result ≡ Err c.in_err-fde_count.field-0.0 = search rules in
    rw gives (header_by_count (g.R.Reader.position c.args.self.now.0) c.args.address_size c.args.bases.now.eh_frame_hdr (Err c.in_err-fde_count.field-0.0)
    c.in_ok-version.ensures c.if-version-ne1.false c.new-size.ensures c.in_ok-pointer_encoding.ensures c.in_ok-count_encoding.ensures c.in_ok-table_encoding.ensures
    c.in_ok-eh_frame_ptr.ensures c.in_err-fde_count.ensures)

pub returns-clause-read : goal.returns-clause-read
returns-clause-read g c =
    header_by_count (g.R.Reader.position c.args.self.now.0) c.args.address_size c.args.bases.now.eh_frame_hdr (Ok c.in_ok-fde_count.fde_count)
    c.in_ok-version.ensures c.if-version-ne1.false c.new-size.ensures c.in_ok-pointer_encoding.ensures c.in_ok-count_encoding.ensures c.in_ok-table_encoding.ensures
    c.in_ok-eh_frame_ptr.ensures c.in_ok-fde_count.ensures
