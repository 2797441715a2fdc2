use Rattle.std.proofs.Common.{◌≡◌, map, subst, sym}
use Rattle.cfi_flame.specs.Boxes.{box_view, wide_boxes}
use Rattle.cfi_flame.specs.Pictures.{IsPicture}
use Rattle.cfi_flame.proofs.PictureLemmas.{picture_of_wide}
use Rattle.cfi_flame.proofs.BoxLemmas.{next_box, wide_end, wide_step}
use Rattle.cfi_flame.proofs.boxes.wide_boxes.Goals as goal

pub loop-found-preserved : goal.loop-found-preserved
loop-found-preserved c = wide_step _ _ _ c.args.least c.args.total _ _ _ (next_box c.args.boxes.now c.loop-found.found-index _ c.loop-found-test.true) c.loop-found.invariant c.in_ok-add_wide.ensures

pub returns-clause-picture : goal.returns-clause-picture
returns-clause-picture c = λ is.
    let all = map box_view c.args.boxes.now in
    let same : map box_view c.loop-found.wide.items ≡ wide_boxes c.args.least c.args.total all = wide_end _ _ c.args.least c.args.total c.args.boxes.now c.loop-found.found-index c.loop-found-test.false c.loop-found.invariant in
    subst IsPicture (sym same) (picture_of_wide c.args.least c.args.total all is)
