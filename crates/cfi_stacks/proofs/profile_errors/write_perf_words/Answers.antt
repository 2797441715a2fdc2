use Rattle.std.proofs.Common.{◌++◌}
use Rattle.cfi_text.proofs.PartsWritten.{first_refused, last_written}
use Rattle.cfi_stacks.specs.ProfileErrors.{perf_words}
use Rattle.cfi_stacks.proofs.profile_errors.write_perf_words.Goals as goal

pub returns-in_err-write_perf_reason : goal.returns-in_err-write_perf_reason
returns-in_err-write_perf_reason g c =
    let words = perf_words c.args.format c.args.error in
    last_written _ _ _ _ c.args.before.now (words ++ c.args.after.now) c.in_ok-write_text.ensures
    (first_refused _ _ _ words c.args.after.now c.from_residual-in_err-write_perf_reason.ensures.0 c.in_err-write_perf_reason.ensures)

pub returns : goal.returns
returns g c =
    let words = perf_words c.args.format c.args.error in
    last_written _ _ _ _ c.args.before.now (words ++ c.args.after.now) c.in_ok-write_text.ensures
    (last_written _ _ _ _ words c.args.after.now c.in_ok-write_perf_reason.ensures c.write_text-2.ensures)
