use Rattle.std.proofs.Common.{ap}
use Rattle.cfi_text.proofs.WrittenLemmas.{given_on, given_same}
use Rattle.cfi_text.proofs.lines.write_text.Goals as goal
use Rattle.cfi_text.proofs.lines.write_text.Goals.{in-Ok, in-Err+else-ne}

pub loop-preserved : goal.loop-preserved
loop-preserved g c = elim c.match-write.branch [
  | in-Ok w ↦ given_on _ _ _ _ _ _ w.in-Ok.n c.loop.invariant w.in-Ok.ensures.bytes (ap (λ rest. rest.now) w.rest-is)
  | in-Err+else-ne w ↦ rw (w.rest-is) (given_same _ _ _ _ _ c.loop.invariant w.in-Err.ensures.bytes)
]
