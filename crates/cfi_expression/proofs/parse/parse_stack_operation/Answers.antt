use Rattle.std.proofs.Common.{refl}
use Rattle.cfi_expression.proofs.Cases.{literal_read}
use Rattle.cfi_expression.proofs.parse.parse_stack_operation.Goals as goal

pub returns-then-opcode-lt80 : goal.returns-then-opcode-lt80
returns-then-opcode-lt80 g c = (literal_read _ _ _ c.if-opcode-lt48.false c.if-opcode-lt80.true c.from.ensures, refl)
