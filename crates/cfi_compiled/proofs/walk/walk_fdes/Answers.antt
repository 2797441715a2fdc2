use Rattle.std.proofs.Common.{◌≡◌, ℕ, [], drop, get_or, arith}
use Rattle.std.proofs.lemmas.List.{drop_all, drop_more}
use Rattle.std.proofs.Math.ListN.{length-map}
use Rattle.cfi_read_core.specs.CallFrameSections.{IsOf}
use Rattle.cfi_unwind.specs.FdeViews.{fde_view}
use Rattle.cfi_unwind.specs.declared.entry.fde.FdeFields.{FdeFields}
use Rattle.cfi_compiled.specs.declared.pieces.Piece.{Piece}
use Rattle.cfi_compiled.proofs.FdeSteps.{taken_none, taken_all, taken_next, begins, contains, of_within, starts, ends}
use Rattle.cfi_compiled.proofs.Viewed.{at_there, holds_of}
use Rattle.cfi_compiled.proofs.walk.walk_fdes.Goals as goal

abbrev nothing : Piece
nothing = record { from = 0; to = 0; of = 0 }

pub loop-piece-init : goal.loop-piece-init
loop-piece-init g c = record { free = omega (arith, c.requires.free); so_far = taken_none _ _ _ _ _ c.requires.ascend }

pub take_gap-requires-clause-order : goal.take_gap-requires-clause-order
take_gap-requires-clause-order g c =
    let piece = get_or c.args.pieces.now c.loop-piece.piece-index nothing in
    let there = drop_more c.args.pieces.now c.loop-piece.piece-index nothing c.loop-piece-test.true in
    begins _ _ _ _ c.requires.owner _ _ _ c.loop-piece.invariant.so_far piece _ there

pub offset_bounds-fdes-piece : goal.offset_bounds-fdes-piece
offset_bounds-fdes-piece g c =
    let piece = get_or c.args.pieces.now c.loop-piece.piece-index nothing in
    let there = drop_more c.args.pieces.now c.loop-piece.piece-index nothing c.loop-piece-test.true in
    let within = simp length-map at (of_within _ _ _ _ c.requires.owner _ _ _ c.loop-piece.invariant.so_far piece _ there) in
    omega (arith, within)

pub bounds-fdes-piece : goal.bounds-fdes-piece
bounds-fdes-piece g c =
    let piece = get_or c.args.pieces.now c.loop-piece.piece-index nothing in
    let there = drop_more c.args.pieces.now c.loop-piece.piece-index nothing c.loop-piece-test.true in
    simp length-map at (of_within _ _ _ _ c.requires.owner _ _ _ c.loop-piece.invariant.so_far piece _ there)

pub take_fde-requires-clause-own : goal.take_fde-requires-clause-own
take_fde-requires-clause-own g c =
    let piece = get_or c.args.pieces.now c.loop-piece.piece-index nothing in
    let there = drop_more c.args.pieces.now c.loop-piece.piece-index nothing c.loop-piece-test.true in
    let within = simp length-map at (of_within _ _ _ _ c.requires.owner _ _ _ c.loop-piece.invariant.so_far piece _ there) in
    holds_of (fde_view g.R.Reader.position (λ (n : ℕ). n)) c.args.fdes.now piece.of c.index-fdes-piece.result within c.index-fdes-piece.is
    (λ (fde : FdeFields g.row.R.Denot ℕ). IsOf (g.R.Reader.position fde.instructions) (g.S._UnwindSectionPrivate.view c.args.section.now).position) c.requires.own

pub take_fde-requires-clause-cie : goal.take_fde-requires-clause-cie
take_fde-requires-clause-cie g c =
    let piece = get_or c.args.pieces.now c.loop-piece.piece-index nothing in
    let there = drop_more c.args.pieces.now c.loop-piece.piece-index nothing c.loop-piece-test.true in
    let within = simp length-map at (of_within _ _ _ _ c.requires.owner _ _ _ c.loop-piece.invariant.so_far piece _ there) in
    holds_of (fde_view g.R.Reader.position (λ (n : ℕ). n)) c.args.fdes.now piece.of c.index-fdes-piece.result within c.index-fdes-piece.is
    (λ (fde : FdeFields g.row.R.Denot ℕ). IsOf (g.R.Reader.position fde.cie.initial_instructions) (g.S._UnwindSectionPrivate.view c.args.section.now).position) c.requires.cie

pub take_fde-requires-clause-start : goal.take_fde-requires-clause-start
take_fde-requires-clause-start g c =
    let view = fde_view g.R.Reader.position (λ (n : ℕ). n) in
    let piece = get_or c.args.pieces.now c.loop-piece.piece-index nothing in
    let there = drop_more c.args.pieces.now c.loop-piece.piece-index nothing c.loop-piece-test.true in
    let within = simp length-map at (of_within _ _ _ _ c.requires.owner _ _ _ c.loop-piece.invariant.so_far piece _ there) in
    starts _ _ _ _ c.requires.owner _ _ _ c.loop-piece.invariant.so_far piece _ there (view c.index-fdes-piece.result) (at_there view c.args.fdes.now piece.of c.index-fdes-piece.result within c.index-fdes-piece.is)

pub take_fde-requires-clause-some : goal.take_fde-requires-clause-some
take_fde-requires-clause-some g c =
    let piece = get_or c.args.pieces.now c.loop-piece.piece-index nothing in
    let there = drop_more c.args.pieces.now c.loop-piece.piece-index nothing c.loop-piece-test.true in
    contains _ _ _ _ c.requires.owner _ _ _ c.loop-piece.invariant.so_far piece _ there

pub take_fde-requires-clause-last : goal.take_fde-requires-clause-last
take_fde-requires-clause-last g c =
    let view = fde_view g.R.Reader.position (λ (n : ℕ). n) in
    let piece = get_or c.args.pieces.now c.loop-piece.piece-index nothing in
    let there = drop_more c.args.pieces.now c.loop-piece.piece-index nothing c.loop-piece-test.true in
    let within = simp length-map at (of_within _ _ _ _ c.requires.owner _ _ _ c.loop-piece.invariant.so_far piece _ there) in
    ends _ _ _ _ c.requires.owner _ _ _ c.loop-piece.invariant.so_far piece _ there (view c.index-fdes-piece.result) (at_there view c.args.fdes.now piece.of c.index-fdes-piece.result within c.index-fdes-piece.is)

pub loop-piece-preserved : goal.loop-piece-preserved
loop-piece-preserved g c =
    let view = fde_view g.R.Reader.position (λ (n : ℕ). n) in
    let piece = get_or c.args.pieces.now c.loop-piece.piece-index nothing in
    let there = drop_more c.args.pieces.now c.loop-piece.piece-index nothing c.loop-piece-test.true in
    let within = simp length-map at (of_within _ _ _ _ c.requires.owner _ _ _ c.loop-piece.invariant.so_far piece _ there) in
    record {
      free = c.in_ok-take_fde.ensures.free;
      so_far = taken_next _ _ _ _ c.requires.owner _ _ _ c.loop-piece.invariant.so_far piece _ there (view c.index-fdes-piece.result) (at_there view c.args.fdes.now piece.of c.index-fdes-piece.result within c.index-fdes-piece.is)
          _ _ c.in_ok-take_gap.ensures.before c.in_ok-take_gap.ensures.within c.in_ok-take_fde.ensures.before c.in_ok-take_fde.ensures.within;
    }

pub returns : goal.returns
returns g c =
    let none : drop c.loop-piece.piece-index c.args.pieces.now ≡ [] = drop_all c.loop-piece.piece-index c.args.pieces.now (omega (arith, c.loop-piece-test.false)) in
    taken_all _ _ _ _ c.requires.owner _ _ _ c.loop-piece.invariant.so_far _ none c.in_ok-error.ensures.before c.in_ok-error.ensures.after
