use Rattle.std.proofs.Common.{◌≡◌, pos, sym, ap, arith}
use Rattle.cfi_c.specs.Refusals.{status_name}
use Rattle.cfi_c.proofs.Names.{unnamed}
use Rattle.cfi_c.proofs.refusal.own_name.Goals as goal

pub returns-then-number-gt69 : goal.returns-then-number-gt69
returns-then-number-gt69 c = unnamed c.args.number c.if-number-gt69.true

pub returns : goal.returns
returns c =
    let is : c.args.number ≡ 69 =
    omega (arith, c.requires, c.if-number-gt69.false, c.if-number-eq64.false, c.if-number-eq65.false, c.if-number-eq66.false, c.if-number-eq67.false, c.if-number-eq68.false) in
    ap (λ n. status_name (pos n)) (sym is)
