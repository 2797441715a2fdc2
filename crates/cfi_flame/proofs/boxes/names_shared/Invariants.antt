use Rattle.std.proofs.Common.{◌≡◌, ◌++◌, None, drop, length, map, option_map}
use Rattle.cfi_flame.specs.Boxes.{names_shared}
use Rattle.cfi_flame.specs.FoldedStacks.{stack_view}
use Rattle.cfi_flame.proofs.boxes.names_shared.Given as goal

abbrev pub invariant-loop-k : goal.invariant-loop-k
invariant-loop-k l = record {
  made : l.shared.items ++ names_shared (option_map (λ frames. frames.now) l.before) (drop l.k (map stack_view l.stacks)) ≡ names_shared None (map stack_view l.stacks);
  each : length l.shared.items ≡ l.k;
}
