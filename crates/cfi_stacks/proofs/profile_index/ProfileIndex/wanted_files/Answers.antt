use Rattle.std.proofs.Common.{◌<◌, ◌∙◌, List, ap, arith, get_or, length, map, sym}
use Rattle.std.specs.Option.{is_some}
use Rattle.std.proofs.Math.ListN.{get_or-map}
use Rattle.std.proofs.lemmas.List.{get_or_default, length-map}
use Rattle.cfi_perf.specs.declared.index.RecordPlace.{RecordPlace}
use Rattle.cfi_mapped.specs.Wanted.{wanted_view}
use Rattle.cfi_stacks.specs.ProfileIndexes.{piece_place}
use Rattle.cfi_stacks.proofs.FoundLemmas.{when_ok}
use Rattle.cfi_stacks.proofs.WantedPieces.{all_wanted, no_piece, one_wanted, with_the_file}
use Rattle.cfi_stacks.proofs.profile_index.ProfileIndex.wanted_files.Goals as goal

pub loop-place-preserved : goal.loop-place-preserved
loop-place-preserved c =
    let index = c.args.self.now in
    let items = c.places-place-items.result.now in
    let i = c.loop-place.place-index in
    let invariant = c.loop-place.invariant in (
      invariant.0,
      λ known pieces is.
          let within : i < length pieces = omega (arith, c.loop-place-test.true, ap length invariant.0, ap length is.places, length-map pieces piece_place) in
          let piece = get_or pieces i no_piece in
          let pushed = when_ok c.push.result _ (sym c.is_err.ensures.value ∙ c.if-is_err.false) c.push.ensures in
          let file = c.in_ok-file.ensures known piece (is.each i no_piece within)
          (sym (get_or-map piece_place pieces i no_piece) ∙ (ap (λ (l : List RecordPlace). get_or l i no_piece.place) (is.places ∙ sym invariant.0) ∙ get_or_default items i no_piece.place _ c.loop-place-test.true)) in
          one_wanted (is_some index.kernel) pieces i no_piece (map wanted_view c.loop-place.files) (map wanted_view c.push.new.self) _ within
          (pushed ∙ with_the_file (map wanted_view c.loop-place.files) _ _ file) (invariant.1 known pieces is),
    )

pub returns : goal.returns
returns c known pieces is =
    ap (map wanted_view) c.into_list.ensures
    ∙ all_wanted known c.args.self.now pieces c.loop-place.place-index (map wanted_view c.loop-place.files) is (omega (arith, c.loop-place-test.false, ap length c.loop-place.invariant.0)) (c.loop-place.invariant.1 known pieces is)
