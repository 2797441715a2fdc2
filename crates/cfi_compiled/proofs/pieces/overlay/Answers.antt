use Rattle.std.proofs.Common.{◌<◌, ◌≤◌, List, get_or, length, sym, ap, subst, arith}
use Rattle.std.proofs.lemmas.List.{drop_all, drop_more}
use Rattle.cfi_compiled.specs.declared.pieces.Piece.{Piece}
use Rattle.cfi_compiled.specs.Pieces.{Ascend, owner}
use Rattle.cfi_compiled.proofs.Overlay.{laid_all, laid_skip, laid_above, laid_below, ended, begin_above, none_before}
use Rattle.cfi_compiled.proofs.pieces.overlay.Goals as goal

abbrev nothing : Piece
nothing = record { from = 0; to = 0; of = 0 }

pub returns-then-j-below-clause-owner : goal.returns-then-j-below-clause-owner
returns-then-j-below-clause-owner c =
    laid_all _ _ _ _ _ _ c.loop-i.invariant.laid (drop_all c.loop-i.i c.args.above.now (omega (arith, c.if-i-above.true))) (drop_all c.loop-i.j c.args.below.now (omega (arith, c.if-j-below.true)))

pub loop-i-preserved-then-from-last : goal.loop-i-preserved-then-from-last
loop-i-preserved-then-from-last c =
    let inside : c.loop-i.j < length c.args.below.now = omega (arith, c.loop-i.invariant.below, c.if-j-below.false) in
    let y = get_or c.args.below.now c.loop-i.j nothing in
    let is = drop_more c.args.below.now c.loop-i.j nothing inside in
    let none = drop_all c.loop-i.i c.args.above.now (omega (arith, c.if-i-above.true)) in
    let greater = c.greater-from.ensures in
    record {
      above = c.loop-i.invariant.above;
      below = omega (arith, inside);
      laid = rw c.in_ok-push.ensures.items
          (laid_skip _ _ _ _ _ _
          (laid_below _ _ _ _ _ _ c.loop-i.invariant.laid y _ c.greater-from.result y.to is greater.second greater.first greater.least c.if-from-last.true (omega arith) (subst (λ (l : List Piece). Ascend y.to l) (sym none) tt))
          y _ is (omega arith));
    }

pub loop-i-preserved-then-i-above : goal.loop-i-preserved-then-i-above
loop-i-preserved-then-i-above c =
    let inside : c.loop-i.j < length c.args.below.now = omega (arith, c.loop-i.invariant.below, c.if-j-below.false) in
    let y = get_or c.args.below.now c.loop-i.j nothing in
    let is = drop_more c.args.below.now c.loop-i.j nothing inside in
    record {
      above = c.loop-i.invariant.above;
      below = omega (arith, inside);
      laid = laid_skip _ _ _ _ _ _ c.loop-i.invariant.laid y _ is (ended y _ _ c.greater-from.result _ is c.loop-i.invariant.laid.below_ascend c.if-from-last.false c.greater-from.ensures.least);
    }

pub loop-i-preserved-then-j-below-2 : goal.loop-i-preserved-then-j-below-2
loop-i-preserved-then-j-below-2 c =
    let inside : c.loop-i.i < length c.args.above.now = omega (arith, c.loop-i.invariant.above, c.if-i-above.false) in
    let x = get_or c.args.above.now c.loop-i.i nothing in
    let is = drop_more c.args.above.now c.loop-i.i nothing inside in
    let none = drop_all c.loop-i.j c.args.below.now (omega (arith, c.if-j-below-2.true)) in
    record {
      above = omega (arith, inside);
      below = c.loop-i.invariant.below;
      laid = rw c.in_ok-push-2.ensures.items (laid_above _ _ _ _ _ _ c.loop-i.invariant.laid x _ is (λ a low high. ap (λ (l : List Piece). owner a l) none));
    }

pub loop-i-preserved-then-x-start : goal.loop-i-preserved-then-x-start
loop-i-preserved-then-x-start c =
    let inside : c.loop-i.i < length c.args.above.now = omega (arith, c.loop-i.invariant.above, c.if-i-above.false) in
    let within : c.loop-i.j < length c.args.below.now = omega (arith, c.loop-i.invariant.below, c.if-j-below-2.false) in
    let x = get_or c.args.above.now c.loop-i.i nothing in
    let y = get_or c.args.below.now c.loop-i.j nothing in
    let is = drop_more c.args.above.now c.loop-i.i nothing inside in
    let under = drop_more c.args.below.now c.loop-i.j nothing within in
    record {
      above = omega (arith, inside);
      below = c.loop-i.invariant.below;
      laid = rw c.in_ok-push-3.ensures.items
          (laid_above _ _ _ _ _ _ c.loop-i.invariant.laid x _ is
          (none_before y _ _ c.greater-start.result _ x.from under c.loop-i.invariant.laid.below_ascend c.greater-start.ensures.least c.if-x-start.true));
    }

pub loop-i-preserved-then-y-start : goal.loop-i-preserved-then-y-start
loop-i-preserved-then-y-start c =
    let within : c.loop-i.j < length c.args.below.now = omega (arith, c.loop-i.invariant.below, c.if-j-below-2.false) in
    let y = get_or c.args.below.now c.loop-i.j nothing in
    let is = drop_more c.args.below.now c.loop-i.j nothing within in
    record {
      above = c.loop-i.invariant.above;
      below = omega (arith, within);
      laid = laid_skip _ _ _ _ _ _ c.loop-i.invariant.laid y _ is (ended y _ _ c.greater-start.result _ is c.loop-i.invariant.laid.below_ascend c.if-y-start.true c.greater-start.ensures.least);
    }

pub loop-i-preserved-then-y-x : goal.loop-i-preserved-then-y-x
loop-i-preserved-then-y-x c =
    let inside : c.loop-i.i < length c.args.above.now = omega (arith, c.loop-i.invariant.above, c.if-i-above.false) in
    let within : c.loop-i.j < length c.args.below.now = omega (arith, c.loop-i.invariant.below, c.if-j-below-2.false) in
    let x = get_or c.args.above.now c.loop-i.i nothing in
    let y = get_or c.args.below.now c.loop-i.j nothing in
    let over = drop_more c.args.above.now c.loop-i.i nothing inside in
    let is = drop_more c.args.below.now c.loop-i.j nothing within in
    let greater = c.greater-start.ensures in
    record {
      above = c.loop-i.invariant.above;
      below = omega (arith, within);
      laid = rw c.in_ok-push-4.ensures.items
          (laid_skip _ _ _ _ _ _
          (laid_below _ _ _ _ _ _ c.loop-i.invariant.laid y _ c.greater-start.result y.to is greater.second greater.first greater.least c.if-y-start.false (omega arith) (begin_above _ y.to x _ _ over c.loop-i.invariant.laid.above_ascend c.if-y-x.true))
          y _ is (omega arith));
    }

pub loop-i-preserved : goal.loop-i-preserved
loop-i-preserved c =
    let inside : c.loop-i.i < length c.args.above.now = omega (arith, c.loop-i.invariant.above, c.if-i-above.false) in
    let within : c.loop-i.j < length c.args.below.now = omega (arith, c.loop-i.invariant.below, c.if-j-below-2.false) in
    let x = get_or c.args.above.now c.loop-i.i nothing in
    let y = get_or c.args.below.now c.loop-i.j nothing in
    let over = drop_more c.args.above.now c.loop-i.i nothing inside in
    let is = drop_more c.args.below.now c.loop-i.j nothing within in
    let greater = c.greater-start.ensures in
    let some : c.greater-start.result < x.from = omega (arith, c.if-x-start.false) in
    let last : x.from ≤ y.to = omega (arith, c.if-y-x.false) in
    let part = laid_below _ _ _ _ _ _ c.loop-i.invariant.laid y _ c.greater-start.result x.from is greater.second greater.first greater.least some last (begin_above _ x.from x _ _ over c.loop-i.invariant.laid.above_ascend (omega arith)) in
    record {
      above = omega (arith, inside);
      below = c.loop-i.invariant.below;
      laid = rw (c.in_ok-push-6.ensures.items, c.in_ok-push-5.ensures.items) (laid_above _ _ _ _ _ _ part x _ over (λ a low high. absurd (omega (arith, low, high))));
    }
