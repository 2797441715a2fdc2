use Rattle.cfi_files.proofs.SendingLemmas.{grows_sent}
use Rattle.cfi_files.proofs.dump.section.write_entry.Goals as goal

pub returns-in-Err-clause-written : goal.returns-in-Err-clause-written
returns-in-Err-clause-written g c = grows_sent _ _ _ _ c.write_refused.result _ c.write_refused.ensures
