use Rattle.cfi_step.specs.CachedRows.{AreEmpty}
use Rattle.cfi_processes.proofs.room.empty_rows.Given as goal

abbrev pub invariant-loop : goal.invariant-loop
invariant-loop l = AreEmpty l.rows.items
