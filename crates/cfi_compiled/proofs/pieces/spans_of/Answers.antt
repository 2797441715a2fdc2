use Rattle.std.proofs.Common.{◌≡◌, ◌+◌, ◌++◌, ◌∷◌, [], ℕ, List, map, drop, append_assoc, refl, ap, ◌∙◌}
use Rattle.cfi_unwind.specs.FdeViews.{fde_view}
use Rattle.cfi_compiled.specs.declared.pieces.Piece.{Piece}
use Rattle.cfi_compiled.specs.Pieces.{spans_from}
use Rattle.cfi_compiled.proofs.Viewed.{left_there}
use Rattle.cfi_compiled.proofs.pieces.spans_of.Goals as goal

pub loop-fde-preserved : goal.loop-fde-preserved
loop-fde-preserved g c =
    let view = fde_view g.R.Reader.position (λ (n : ℕ). n) in
    let there = left_there view c.args.fdes.now c.loop-fde.fde-index c.fde-item.result c.loop-fde-test.true c.fde-item.is in
    let span : Piece = record { from = c.initial_address.result; to = c.end_address.result; of = c.loop-fde.of } in
    let rest = spans_from (c.loop-fde.fde-index + 1) (drop (c.loop-fde.fde-index + 1) (map view c.args.fdes.now)) in
    let here : span ∷ rest ≡ spans_from c.loop-fde.fde-index (drop c.loop-fde.fde-index (map view c.args.fdes.now)) =
    rw (there, c.initial_address.ensures, c.end_address.ensures, c.loop-fde.invariant.number) refl in
    record {
      number = ap (λ (n : ℕ). n + 1) c.loop-fde.invariant.number;
      so_far = ap (λ (l : List Piece). l ++ rest) c.in_ok-push.ensures.items
          ∙ append_assoc c.loop-fde.spans.items (span ∷ []) rest
          ∙ ap (λ (l : List Piece). c.loop-fde.spans.items ++ l) here
          ∙ c.loop-fde.invariant.so_far;
    }
