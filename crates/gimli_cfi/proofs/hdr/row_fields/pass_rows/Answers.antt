use Rattle.std.proofs.Common.{◌≡◌, ◌*◌, ◌<◌, refl, arith}
use Rattle.gimli_cfi.proofs.RowReads.{not_passed}
use Rattle.gimli_cfi.proofs.hdr.row_fields.pass_rows.Goals as goal

pub returns-in_default : goal.returns-in_default
returns-in_default g c =
    let source = (g.R.Reader.position c.args.input.now).source in
    let greatest : source.greatest ≡ g.R.Offset.ReaderOffset.GREATEST = g.met.R.Reader.greatest c.args.input.now in
    let above : source.greatest < c.args.count * (2 * c.args.size) = omega (arith, greatest, c.GREATEST-greatest.ensures, c.GREATEST-greatest.type_inv, c.in_default.ensures) in
    (not_passed _ _ _ _ above, refl)
