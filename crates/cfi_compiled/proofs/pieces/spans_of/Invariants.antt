use Rattle.std.proofs.Common.{◌≡◌, ◌++◌, ℕ, map, drop}
use Rattle.cfi_unwind.specs.FdeViews.{fde_view}
use Rattle.cfi_compiled.specs.Pieces.{spans_from}
use Rattle.cfi_compiled.proofs.pieces.spans_of.Given as goal

abbrev pub invariant-loop-fde : goal.invariant-loop-fde
invariant-loop-fde g l =
    let fdes = map (fde_view g.R.Reader.position (λ (n : ℕ). n)) l.fdes in
    record { number : l.of ≡ l.fde-index; so_far : l.spans.items ++ spans_from l.fde-index (drop l.fde-index fdes) ≡ spans_from 0 fdes }
