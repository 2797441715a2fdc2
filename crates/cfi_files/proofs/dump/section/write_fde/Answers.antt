use Rattle.cfi_files.proofs.SendingLemmas.{grows_sent, grows_then}
use Rattle.cfi_files.proofs.dump.section.write_fde.Goals as goal

pub returns : goal.returns
returns g c = grows_then _ _ _ c.in_ok-write_instructions.ensures (grows_sent _ _ _ _ c.write_rows.result _ c.write_rows.ensures)
