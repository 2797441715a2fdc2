use Rattle.std.proofs.Common.{refl}
use Rattle.cfi_text.proofs.WrittenLemmas.{none_yet}
use Rattle.cfi_stacks.proofs.profile_errors.write_end.Goals as goal

pub returns-in-Ok : goal.returns-in-Ok
returns-in-Ok g c = rw c.in-Ok.is (none_yet (g.W.Write.contents c.args.output.now), refl)

pub returns-in-Err : goal.returns-in-Err
returns-in-Err g c = rw c.in-Err.is c.write_stopped.ensures
