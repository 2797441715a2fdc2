use Rattle.std.proofs.Common.{◌∙◌, ap, arith}
use Rattle.cfi_elf.specs.Headers.{file_header}
use Rattle.cfi_elf.specs.Images.{image_view}
use Rattle.cfi_elf.proofs.FileKinds.{file_read}
use Rattle.cfi_elf.proofs.elf_file.any_file.Goals as goal

pub returns : goal.returns
returns c =
    let ident = c.in_ok-identification.identification in
    file_read (image_view c.args.image) c.args.bytes.now ident c.parse_file_header-header.result c.file_header_size.result c.in_ok-identification.ensures c.file_header_size.ensures
    (omega (arith, c.if-bytes-file_header_size.false))
    (c.parse_file_header-header.ensures ∙ ap (λ big. file_header ident.class big c.args.bytes.now) c.is_big_endian.ensures)
