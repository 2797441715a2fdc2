use Rattle.std.proofs.Common.{◌/◌, List, length, take, sym, ap, subst, ◌∙◌}
use Rattle.std.specs.Option.{option_or}
use Rattle.cfi_compiled.specs.declared.pieces.Piece.{Piece}
use Rattle.cfi_compiled.specs.Pieces.{Ascend, owner}
use Rattle.cfi_compiled.proofs.Overlay.{owner_split, short_ascend}
use Rattle.cfi_compiled.proofs.pieces.+resolve.Goals as goal
use Rattle.cfi_compiled.proofs.pieces.+resolve.Goals.{then-spans-le1-via-then-spans-le1, then-spans-le1-via-else-spans-le1+then-is_ascending}

pub returns-then-spans-le1-clause-ascend : goal.returns-then-spans-le1-clause-ascend
returns-then-spans-le1-clause-ascend t c =
    let ascend : Ascend 0 c.args.spans.now = elim c.then-spans-le1.branch [
      | then-spans-le1-via-then-spans-le1 w ↦ short_ascend c.args.spans.now w.if-spans-le1.true c.requires
      | then-spans-le1-via-else-spans-le1+then-is_ascending w ↦ w.is_ascending.ensures w.if-is_ascending.true
    ] in
    subst (λ (l : List Piece). Ascend 0 l) (sym c.in_ok-pieces.ensures.items) ascend

pub returns-clause-owner : goal.returns-clause-owner
returns-clause-owner t c a =
    c.in_ok-laid.ensures.owner a
    ∙ ap (λ (l : List Piece). option_or (owner a l) (owner a c.as_slice-2.result.now)) c.as_slice.ensures.value
    ∙ ap (λ (l : List Piece). option_or (owner a c.in_ok-above.above.items) (owner a l)) c.as_slice-2.ensures.value
    ∙ ap (λ o. option_or o (owner a c.in_ok-below.below.items)) (c.in_ok-above.ensures.owner a)
    ∙ ap (λ o. option_or (owner a c.split_at.result.0.now) o) (c.in_ok-below.ensures.owner a)
    ∙ ap (λ (l : List Piece). option_or (owner a l) (owner a c.split_at.result.1.now)) c.split_at.ensures.front
    ∙ ap (λ (l : List Piece). option_or (owner a (take (length c.args.spans.now / 2) c.args.spans.now)) (owner a l)) c.split_at.ensures.back
    ∙ owner_split a (length c.args.spans.now / 2) c.args.spans.now
