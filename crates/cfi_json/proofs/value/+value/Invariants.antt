use Rattle.std.proofs.Common.{drop, true}
use Rattle.cfi_text.proofs.TextLemmas.{IsPut}
use Rattle.cfi_json.proofs.Printed.{items_left, members_left}
use Rattle.cfi_json.proofs.value.+value.Given as goal

abbrev pub invariant-put_items-loop-value : goal.invariant-put_items-loop-value
invariant-put_items-loop-value l =
    IsPut l.fn.text l.text (items_left l.is_first (drop l.value-index l.values)) (items_left true l.values)

abbrev pub invariant-put_members-loop-member : goal.invariant-put_members-loop-member
invariant-put_members-loop-member l =
    IsPut l.fn.text l.text (members_left l.is_first (drop l.member-index l.members)) (members_left true l.members)
