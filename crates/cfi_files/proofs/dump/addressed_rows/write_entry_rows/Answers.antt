use Rattle.cfi_files.proofs.SendingLemmas.{passes_nothing}
use Rattle.cfi_files.proofs.dump.addressed_rows.write_entry_rows.Goals as goal

pub returns-in-Ok-Cie-clause-written : goal.returns-in-Ok-Cie-clause-written
returns-in-Ok-Cie-clause-written g c = rw (c.in-Ok-Cie.is, c.in-Ok-Cie.field-0-is) (passes_nothing _ _)

pub returns-in-Ok-Fde-clause-written : goal.returns-in-Ok-Fde-clause-written
returns-in-Ok-Fde-clause-written g c = rw (c.in-Ok-Fde.is, c.in-Ok-Fde.field-0-is) c.write_partial_rows.ensures.written

pub returns-in-Err-clause-written : goal.returns-in-Err-clause-written
returns-in-Err-clause-written g c = rw c.in-Err.is c.write_refused.ensures
