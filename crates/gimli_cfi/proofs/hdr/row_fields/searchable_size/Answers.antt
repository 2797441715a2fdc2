use Rattle.std.proofs.Common.{◌≡◌, None, rules}
use Rattle.gimli_cfi.specs.EhFrameHdr.{value_size}
use Rattle.gimli_cfi.proofs.RowReads.{not_searched}
use Rattle.gimli_cfi.proofs.hdr.row_fields.searchable_size.Goals as goal

pub returns-in_default : goal.returns-in_default
returns-in_default c =
    let none : value_size c.args.encoding.0 ≡ None = search rules in
    not_searched c.args.encoding.0 none
