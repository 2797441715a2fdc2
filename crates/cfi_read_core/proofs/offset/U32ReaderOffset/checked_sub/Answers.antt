use Rattle.cfi_read_core.proofs.ReadNumbers.{subtracted}
use Rattle.cfi_read_core.proofs.offset.U32ReaderOffset.checked_sub.Goals as goal

pub returns : goal.returns
returns c = subtracted c.checked_sub.result c.args.self c.args.other c.checked_sub.ensures
