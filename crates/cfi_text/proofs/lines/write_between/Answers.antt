use Rattle.std.proofs.Common.{◌++◌}
use Rattle.cfi_text.proofs.PartsWritten.{first_refused, last_written}
use Rattle.cfi_text.proofs.lines.write_between.Goals as goal

pub returns-in_err-write_text : goal.returns-in_err-write_text
returns-in_err-write_text g c =
    first_refused _ _ _ c.args.before.now (c.args.text.now ++ c.args.after.now) c.from_residual.ensures.0 c.in_err-write_text.ensures

pub returns-in_err-write_text-2 : goal.returns-in_err-write_text-2
returns-in_err-write_text-2 g c =
    last_written _ _ _ _ c.args.before.now (c.args.text.now ++ c.args.after.now) c.in_ok-write_text.ensures
    (first_refused _ _ _ c.args.text.now c.args.after.now c.from_residual-in_err-write_text-2.ensures.0 c.in_err-write_text-2.ensures)

pub returns : goal.returns
returns g c =
    last_written _ _ _ _ c.args.before.now (c.args.text.now ++ c.args.after.now) c.in_ok-write_text.ensures
    (last_written _ _ _ _ c.args.text.now c.args.after.now c.in_ok-write_text-2.ensures c.write_text-3.ensures)
