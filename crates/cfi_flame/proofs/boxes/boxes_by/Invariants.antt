use Rattle.std.proofs.Common.{◌≡◌, ◌+◌, drop, map}
use Rattle.cfi_flame.specs.Boxes.{box_view}
use Rattle.cfi_flame.specs.FoldedStacks.{stack_view, total_of}
use Rattle.cfi_flame.proofs.CommonLemmas.{AreFound}
use Rattle.cfi_flame.proofs.boxes.boxes_by.Given as goal

abbrev pub invariant-loop-k : goal.invariant-loop-k
invariant-loop-k l = record {
  found : AreFound (map box_view l.boxes.items) l.left (drop l.k l.shared) (drop l.k (map stack_view l.stacks)) (map stack_view l.stacks);
  counted : l.left + total_of (drop l.k (map stack_view l.stacks)) ≡ total_of (map stack_view l.stacks);
}
