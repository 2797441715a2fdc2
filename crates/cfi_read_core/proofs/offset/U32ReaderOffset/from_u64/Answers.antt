use Rattle.std.proofs.Common.{refl}
use Rattle.cfi_read_core.proofs.ReadNumbers.{offset_fits}
use Rattle.cfi_read_core.proofs.offset.U32ReaderOffset.from_u64.Goals as goal

pub returns-then-value-le4294967295 : goal.returns-then-value-le4294967295
returns-then-value-le4294967295 c = offset_fits c.args.value c.args.value 4294967295 refl c.if-value-le4294967295.true
