use Rattle.std.proofs.Common.{◌≤◌, ◌+◌, ◌-◌, length, drop}
use Rattle.cfi_compiled.proofs.Overlay.{Laid}
use Rattle.cfi_compiled.proofs.pieces.overlay.Given as goal

abbrev pub invariant-loop-i : goal.invariant-loop-i
invariant-loop-i l = record {
  above : l.i ≤ length l.above;
  below : l.j ≤ length l.below;
  laid : Laid l.above l.below l.laid.items (drop l.i l.above) (drop l.j l.below) l.end;
}

abbrev pub decreases-loop-i : goal.decreases-loop-i
decreases-loop-i l = (length l.above - l.i) + (length l.below - l.j)
