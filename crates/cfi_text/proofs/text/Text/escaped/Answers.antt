use Rattle.std.proofs.Common.{◌∙◌, length, refl, sym}
use Rattle.std.proofs.lemmas.List.{take_rest}
use Rattle.cfi_text.specs.Escapes.{escaped_part}
use Rattle.cfi_text.specs.Names.{name_part_view}
use Rattle.cfi_text.proofs.NameLemmas.{left_smaller, part_within, some_left}
use Rattle.cfi_text.proofs.TextLemmas.{part_put}
use Rattle.cfi_text.proofs.text.Text.escaped.Goals as goal

pub first_part-part-requires : goal.first_part-part-requires
first_part-part-requires c = some_left c.loop-left.left.now (sym c.is_empty.ensures ∙ c.loop-left-test.true)

pub slice_bounds-left-count : goal.slice_bounds-left-count
slice_bounds-left-count c = part_within c.loop-left.left.now (name_part_view c.first_part-part.result) c.first_part-part.ensures

pub loop-left-smaller : goal.loop-left-smaller
loop-left-smaller c =
    let left = c.loop-left.left.now in
    let part = name_part_view c.first_part-part.result in
    left_smaller left part _ (some_left left (sym c.is_empty.ensures ∙ c.loop-left-test.true)) c.first_part-part.ensures (take_rest left (length part.bytes))

pub loop-left-preserved : goal.loop-left-preserved
loop-left-preserved c =
    let left = c.loop-left.left.now in
    let part = name_part_view c.first_part-part.result in
    part_put (escaped_part c.args.escaping) c.args.name.now left part _ _ _ _ (some_left left (sym c.is_empty.ensures ∙ c.loop-left-test.true)) c.first_part-part.ensures (take_rest left (length part.bytes)) c.loop-left.invariant c.part.ensures
