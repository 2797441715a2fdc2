use Rattle.std.proofs.Common.{refl}
use Rattle.std.proofs.lemmas.Result.{on_ok_weaker}
use Rattle.cfi_stacks.proofs.sample_stacks.PrinterVisitor.visit.Goals as goal

pub returns-clause-visited : goal.returns-clause-visited
returns-clause-visited g c = on_ok_weaker c.print_stack.result (λ shown. (shown, refl)) c.print_stack.ensures.printed
