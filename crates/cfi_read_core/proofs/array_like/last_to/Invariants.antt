use Rattle.std.proofs.Common.{◌≡◌, ◌≤◌, ◌<◌, List, [], ◌∷◌, ◌++◌, length}
use Rattle.std.specs.List.{insert}
use Rattle.cfi_read_core.proofs.array_like.last_to.Given as goal

-- the item that was last stands at the place
abbrev pub invariant-loop-place : goal.invariant-loop-place
invariant-loop-place g l =
    record {
      from : l.index ≤ l.place;
      within : l.place < length l.items;
      count : length l.items ≡ length l.initial.items;
      stands : (front : List g.row.T.Denot) (last : g.row.T.Denot) → l.initial.items ≡ front ++ last ∷ [] → l.items ≡ insert front l.place last;
    }

abbrev pub decreases-loop-place : goal.decreases-loop-place
decreases-loop-place g l = l.place
