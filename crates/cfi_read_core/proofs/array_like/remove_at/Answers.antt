use Rattle.std.proofs.Common.{ap, ◌∙◌, arith, length, get_or, ◌-◌, ◌<◌}
use Rattle.std.specs.List.{remove}
use Rattle.cfi_read_core.proofs.Edits.{popped, moved_down}
use Rattle.cfi_read_core.proofs.array_like.remove_at.Goals as goal

pub returns : goal.returns
returns g c =
    let items = c.as_mut_slice-items.result.now in
    let lent = c.as_mut_slice-items.ensures.value in
    let written = c.copy_within.new.self in
    let in_items : c.args.index < length items = omega (arith, c.requires, ap length lent) in
    popped items c.args.index (get_or items (length items - 1)) written _ _ c.pop-item.result in_items
    (λ d. c.copy_within.ensures.after ∙ moved_down items c.args.index d in_items)
    (λ same. g.met.A.ArrayLike.items_of_with_items c.args.list.now written (same ∙ ap length lent))
    c.pop-item.ensures.some c.pop-item.ensures.none
    ∙ ap (λ xs. remove xs c.args.index) lent
