use Rattle.cfi_files.proofs.SendingLemmas.{sends_written}
use Rattle.cfi_files.proofs.dump.lines.write_if_full.Goals as goal

pub returns-then-as_bytes-gt-FULL : goal.returns-then-as_bytes-gt-FULL
returns-then-as_bytes-gt-FULL g c =
    sends_written _ _ _ _ c.write_to.result c.write_to.ensures.written c.write_to.ensures.whole c.write_to.ensures.empty c.write_to.ensures.unwritten
