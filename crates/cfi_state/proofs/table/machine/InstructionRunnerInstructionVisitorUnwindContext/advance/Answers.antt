use Rattle.cfi_state.proofs.Evaluation.{advances}
use Rattle.cfi_state.proofs.table.machine.InstructionRunnerInstructionVisitorUnwindContext.advance.Goals as goal

pub returns : goal.returns
returns g c =
    advances c.args.self.now.parameters.now g.S.Rules.ArrayLike.limit g.S-Stack-ArrayLike.limit g.S.Rules.CopyList.copies_free c.args.self.now.location c.args._context.now
    c.args.delta c.from.result c.bytes-size.result c.in_ok-address.address c.add_sized.result c.add_sized.ensures c.from.ensures c.bytes-size.ensures c.in_ok-address.was
