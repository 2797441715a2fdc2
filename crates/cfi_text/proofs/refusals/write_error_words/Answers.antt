use Rattle.std.proofs.Common.{◌++◌}
use Rattle.cfi_text.specs.ErrorWords.{error_words}
use Rattle.cfi_text.proofs.PartsWritten.{first_refused, last_written}
use Rattle.cfi_text.proofs.refusals.write_error_words.Goals as goal

pub returns-in_err-write_text : goal.returns-in_err-write_text
returns-in_err-write_text g c =
    let words = error_words c.args.format c.args.error in
    first_refused _ _ _ c.args.before.now (words ++ c.args.after.now) c.from_residual.ensures.0 c.in_err-write_text.ensures

pub returns-in_err-write_part : goal.returns-in_err-write_part
returns-in_err-write_part g c =
    let words = error_words c.args.format c.args.error in
    last_written _ _ _ _ c.args.before.now (words ++ c.args.after.now) c.in_ok-write_text.ensures
    (first_refused _ _ _ words c.args.after.now c.from_residual-in_err-write_part.ensures.0 c.in_err-write_part.ensures)

pub returns : goal.returns
returns g c =
    let words = error_words c.args.format c.args.error in
    last_written _ _ _ _ c.args.before.now (words ++ c.args.after.now) c.in_ok-write_text.ensures
    (last_written _ _ _ _ words c.args.after.now c.in_ok-write_part.ensures c.write_text-2.ensures)
