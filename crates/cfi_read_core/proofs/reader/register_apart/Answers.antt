use Rattle.cfi_read_core.proofs.ReadNumbers.{register_read}
use Rattle.cfi_read_core.proofs.reader.register_apart.Goals as goal

pub returns : goal.returns
returns g c = register_read (g.R.Reader.position c.args.input.now) (g.R.Reader.position c.read_uleb128.new.self) c.in_ok-read_uleb128.field-0 c.from_u64.result c.in_ok-read_uleb128.ensures c.from_u64.ensures
