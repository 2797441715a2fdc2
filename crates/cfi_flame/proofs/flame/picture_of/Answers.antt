use Rattle.std.proofs.Common.{ap, map, refl, rules, sym}
use Rattle.std.proofs.lemmas.List.Sorted.{answers_always}
use Rattle.cfi_flame.specs.Boxes.{box_view}
use Rattle.cfi_flame.specs.Flames.{AreSortedByBytes}
use Rattle.cfi_flame.specs.FoldedStacks.{stack_view}
use Rattle.cfi_flame.proofs.FlameLemmas.{sorted_drawn, sorted_refused}
use Rattle.cfi_flame.proofs.LawLemmas.{lawful_if}
use Rattle.cfi_flame.proofs.flame.picture_of.Goals as goal

are_sorted : (c : goal.After-drop-sorted) → AreSortedByBytes (map stack_view c.args.stacks.items) (map stack_view c.as_slice.result.now)
are_sorted c =
    let keys = answers_always _ _ _ (λ f a r next called. search rules) in record {
      read = c.args.stacks.items;
      ordered = c.sort_by_key.new.self.items;
      are = refl;
      by_frames = c.in-Ok.ensures.sorted (λ stack. stack.frames) keys;
      same = c.in-Ok.ensures.permutation;
      view = ap (map stack_view) (sym c.as_slice.ensures.value);
    }

pub returns-in-Ok-clause-found : goal.returns-in-Ok-clause-found
returns-in-Ok-clause-found c = sorted_drawn _ _ c.picture_of_sorted.result c.args.least_width _ _ (are_sorted c) c.picture_of_sorted.ensures.found

pub returns-in-Ok-clause-lawful : goal.returns-in-Ok-clause-lawful
returns-in-Ok-clause-lawful c = lawful_if (λ picture. picture.total) (λ picture. map box_view picture.boxes.items) c.picture_of_sorted.result c.args.least_width _ (returns-in-Ok-clause-found c)

pub returns-in-Ok-clause-refused : goal.returns-in-Ok-clause-refused
returns-in-Ok-clause-refused c = sorted_refused c.picture_of_sorted.result _ _ (are_sorted c) c.picture_of_sorted.ensures.refused
