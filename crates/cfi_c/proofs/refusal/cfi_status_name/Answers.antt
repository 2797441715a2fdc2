use Rattle.std.proofs.Common.{rules, arith}
use Rattle.cfi_c.proofs.refusal.cfi_status_name.Goals as goal
use Rattle.cfi_c.proofs.refusal.cfi_status_name.Goals.{then-k-name, else-k-name}

pub loop-k-preserved : goal.loop-k-preserved
loop-k-preserved c = elim c.if-k-name.branch [
  | then-k-name w ↦ search rules
  | else-k-name w ↦ let inv = c.loop-k.invariant in
      rw w.name-is (inv.0, λ j h within. inv.1 j (omega (arith, within, w.if-k-name.false)) within, λ j h. inv.2 j (omega (arith, h)))
]
