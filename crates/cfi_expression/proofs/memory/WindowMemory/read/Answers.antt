use Rattle.cfi_expression.proofs.Cases.{number_there, number_missing}
use Rattle.cfi_expression.proofs.memory.WindowMemory.read.Goals as goal

pub returns-in-Ok : goal.returns-in-Ok
returns-in-Ok g c = number_there (g.R.Reader.position c.args.self.now.bytes) c.args.self.now.base c.args.address c.args.size c.if-address-self.false c.in-Ok.ensures.0

pub returns-in-Err : goal.returns-in-Err
returns-in-Err g c = number_missing (g.R.Reader.position c.args.self.now.bytes) c.args.self.now.base c.args.address c.args.size c.if-address-self.false c.in-Err.ensures.0
