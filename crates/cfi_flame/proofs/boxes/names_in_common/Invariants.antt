use Rattle.std.proofs.Common.{◌≡◌, ◌≤◌, ◌+◌, drop}
use Rattle.cfi_flame.specs.Boxes.{names_in_common}
use Rattle.cfi_flame.proofs.boxes.names_in_common.Given as goal

abbrev pub invariant-loop-k : goal.invariant-loop-k
invariant-loop-k l = record {
  counted : l.names + names_in_common (drop l.k l.others) (drop l.k l.frames) ≡ names_in_common l.others l.frames;
  few : l.names ≤ l.k;
}
