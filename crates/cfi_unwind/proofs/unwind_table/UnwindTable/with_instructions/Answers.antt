use Rattle.std.proofs.Common.{Ok, Err}
use Rattle.std.proofs.lemmas.Result.{err_from_is_err_and}
use Rattle.cfi_unwind.proofs.TableSteps.{keeps-program}
use Rattle.cfi_unwind.proofs.unwind_table.UnwindTable.with_instructions.Goals as goal

pub returns-in_err-run_initial-clause-kept : goal.returns-in_err-run_initial-clause-kept
returns-in_err-run_initial-clause-kept g c =
    let p = err_from_is_err_and c.from_residual.result c.from_residual.ensures.1 in
    rw (p.1, p.2) (keeps-program _ _ _ (Err c.in_err-run_initial.field-0.0) c.in_err-run_initial.ensures)

pub returns-clause-kept : goal.returns-clause-kept
returns-clause-kept g c = keeps-program _ _ _ (Ok _) c.in_ok-run_initial.ensures

pub run_initial-requires : goal.run_initial-requires
run_initial-requires g c = record { empty = assumption }
