use Rattle.cfi_read_core.proofs.Onward.{onward_unsigned}
use Rattle.cfi_entry.proofs.Within.{behind_of}
use Rattle.cfi_entry.proofs.prefix.read_identified.Goals as goal

pub returns-clause-part : goal.returns-clause-part
returns-clause-part g c = behind_of (onward_unsigned _) c.read_id.ensures c.requires
