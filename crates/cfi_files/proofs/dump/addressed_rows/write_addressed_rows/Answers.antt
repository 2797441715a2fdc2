use Rattle.cfi_files.proofs.SendingLemmas.{sends_behind}
use Rattle.cfi_files.proofs.dump.addressed_rows.write_addressed_rows.Goals as goal

pub returns : goal.returns
returns g c = sends_behind _ _ _ _ _ c.write_rows.result _ _ c.put_addresses.ensures c.write_rows.ensures
