use Rattle.std.proofs.Common.{◌+◌}
use Rattle.cfi_read_core.proofs.SizedSums.{low_byte}
use Rattle.cfi_read_core.proofs.address.U64ReaderAddress.wrapping_add_sized.Goals as goal

pub returns-in-1 : goal.returns-in-1
returns-in-1 c = rw c.in-1.is (low_byte (c.args.self + c.args.length))
