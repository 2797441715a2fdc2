use Rattle.cfi_files.proofs.SendingLemmas.{sends_line}
use Rattle.cfi_files.proofs.dump.lines.write_refused.Goals as goal

pub returns : goal.returns
returns g c = sends_line _ _ _ _ _ c.write_if_full.result _ c.put_refusal_told.ensures c.write_if_full.ensures
