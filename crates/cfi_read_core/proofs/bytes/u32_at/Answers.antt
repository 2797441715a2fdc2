use Rattle.cfi_read_core.proofs.FourBytes.{four_bytes}
use Rattle.cfi_read_core.proofs.bytes.u32_at.Goals as goal

pub returns-then-big_endian : goal.returns-then-big_endian
returns-then-big_endian c = rw (c.if-big_endian.true, four_bytes c.args.bytes.now c.args.at c.requires) assumption
