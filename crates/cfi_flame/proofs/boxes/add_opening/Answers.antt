use Rattle.std.proofs.Common.{◌∙◌, ap, map}
use Rattle.std.proofs.lemmas.List.{map-append}
use Rattle.cfi_flame.specs.Boxes.{box_view}
use Rattle.cfi_flame.specs.FoldedStacks.{stack_view}
use Rattle.cfi_flame.proofs.CommonLemmas.{opened_none, opened_one}
use Rattle.cfi_flame.proofs.boxes.add_opening.Goals as goal

pub returns-then-depth-shared : goal.returns-then-depth-shared
returns-then-depth-shared c =
    opened_none (map box_view c.args.boxes.now.items) c.args.left c.args.front.now c.args.depth (map stack_view c.args.stacks.now) c.args.shared.now c.requires.front c.requires.depth c.if-depth-shared.true

pub returns : goal.returns
returns c =
    opened_one (map box_view c.args.boxes.now.items) _ c.args.left c.args.front.now c.args.depth c.box_width.result (map stack_view c.args.stacks.now) c.args.shared.now c.requires.front c.requires.depth c.if-depth-shared.false
    c.box_width.ensures (ap (map box_view) c.in_ok-push.ensures.items ∙ map-append box_view c.args.boxes.now.items _)
