use Rattle.std.proofs.Common.{sym}
use Rattle.cfi_cores.proofs.StackWindows.{from_there, past_them}
use Rattle.cfi_cores.proofs.stack_window.start_from.Goals as goal

pub returns-then-number-places : goal.returns-then-number-places
returns-then-number-places c = sym (from_there c.args.places.now c.args.number _ c.if-number-places.true)

pub returns-else-number-places : goal.returns-else-number-places
returns-else-number-places c = sym (past_them c.args.places.now c.args.number c.if-number-places.false)
