use Rattle.std.proofs.Common.{◌≡◌, Err, rules}
use Rattle.gimli_cfi.proofs.HeaderParts.{refused_base, refused_pointer, below_base, above_base}
use Rattle.gimli_cfi.proofs.hdr.table.EhHdrTable.pointer_to_offset.Goals as goal

pub returns-in_err-base : goal.returns-in_err-base
returns-in_err-base g c =
    let gives : c.from_residual.result ≡ Err c.in_err-base.field-0.0 = search rules in
    rw gives (refused_base _ _ c.args.ptr _ c.in_err-base.ensures)

pub returns-in_err-address : goal.returns-in_err-address
returns-in_err-address g c =
    let gives : c.from_residual-in_err-address.result ≡ Err c.in_err-address.field-0.0 = search rules in
    rw gives (refused_pointer _ _ _ _ _ c.in_ok-base.ensures c.in_err-address.ensures)

pub returns-in_default : goal.returns-in_default
returns-in_default g c = below_base _ _ _ _ _ c.in_ok-base.ensures c.in_ok-address.ensures c.in_default.ensures

pub returns-in_err-from_u64 : goal.returns-in_err-from_u64
returns-in_err-from_u64 g c =
    let gives : c.from_residual-in_err-from_u64.result ≡ Err c.in_err-from_u64.field-0.0 = search rules in
    let greatest = g.met.R.Reader.greatest c.args.self.now.hdr.now.section in
    rw (gives, greatest) (above_base g.R.Offset.ReaderOffset.GREATEST _ _ _ _ _ _ c.in_ok-base.ensures c.in_ok-address.ensures c.in-Some.ensures.0 c.in-Some.ensures.1 c.in_err-from_u64.ensures)

pub returns : goal.returns
returns g c =
    let greatest = g.met.R.Reader.greatest c.args.self.now.hdr.now.section in
    rw greatest (above_base g.R.Offset.ReaderOffset.GREATEST _ _ _ _ _ _ c.in_ok-base.ensures c.in_ok-address.ensures c.in-Some.ensures.0 c.in-Some.ensures.1 c.in_ok-from_u64.ensures)
