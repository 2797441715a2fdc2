use Rattle.cfi_read_core.proofs.ReadNumbers.{skips_all}
use Rattle.cfi_read_core.proofs.reader.Reader.empty.Goals as goal

pub returns : goal.returns
returns g c = skips_all (g.Self.Reader.position c.args.self.now) (g.Self.Reader.position c.skip.new.self) _ c.skip.result (g.met.Self.Reader.sound c.args.self.now).ordered c.len.ensures c.skip.ensures
