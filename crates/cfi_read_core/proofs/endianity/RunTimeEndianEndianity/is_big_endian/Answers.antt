use Rattle.std.proofs.Common.{sym, ap}
use Rattle.cfi_read_core.specs.ByteOrder.{is_big}
use Rattle.cfi_read_core.proofs.endianity.RunTimeEndianEndianity.is_big_endian.Goals as goal

pub returns-in-Big : goal.returns-in-Big
returns-in-Big c = sym (ap is_big c.in-Big.is)
