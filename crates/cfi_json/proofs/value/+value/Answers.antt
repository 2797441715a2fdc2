use Rattle.std.proofs.Common.{◌≡◌, ◌∙◌, ℕ, ◌+◌, List, ◌∷◌, true, drop, sym, ap, subst, arith}
use Rattle.std.proofs.lemmas.List.{drop_all, drop_more}
use Rattle.cfi_text.specs.JsonTexts.{json_name}
use Rattle.cfi_text.specs.Texts.{Puts}
use Rattle.cfi_text.proofs.TextLemmas.{put_all, put_first}
use Rattle.cfi_json.specs.Json.{quoted}
use Rattle.cfi_json.proofs.Printed.{item_put, items_left, member_put, members_left, none_left}
use Rattle.cfi_json.proofs.value.+value.Goals as goal

pub put_items-loop-value-init : goal.put_items-loop-value-init
put_items-loop-value-init t c = put_first _ _

pub put_items-loop-value-preserved : goal.put_items-loop-value-preserved
put_items-loop-value-preserved t c =
    let l = c.loop-value in
    let xs = c.args.values.now in
    let v = c.value-item.result in
    let here : drop l.value-index xs ≡ v ∷ drop (l.value-index + 1) xs = drop_more xs l.value-index v (omega arith) ∙ ap (λ y. y ∷ drop (l.value-index + 1) xs) (sym c.value-item.is) in
    item_put xs (items_left true xs) l.value-index v here _ _ _ _ l.is_first l.invariant c.put_comma.ensures c.put_value.ensures

pub put_items-returns : goal.put_items-returns
put_items-returns t c =
    let l = c.loop-value in
    put_all _ _ _ _ l.invariant (ap (items_left l.is_first) (drop_all l.value-index c.args.values.now (omega (arith, c.loop-value-test.false))) ∙ none_left l.is_first)

pub put_members-loop-member-init : goal.put_members-loop-member-init
put_members-loop-member-init t c = put_first _ _

pub put_members-loop-member-preserved : goal.put_members-loop-member-preserved
put_members-loop-member-preserved t c =
    let l = c.loop-member in
    let xs = c.args.members.now in
    let key = subst (λ (n : List ℕ). Puts (quoted (json_name n)) c.put_comma.new.text c.put_name.new.text) c.as_bytes.ensures.value c.put_name.ensures in
    member_put xs (members_left true xs) l.member-index _ c.loop-member-test.true l.text c.put_comma.new.text c.put_name.new.text c.put.new.self c.put_value.new.text c.args.text.now l.is_first l.invariant
    c.put_comma.ensures key c.put.ensures c.put_value.ensures

pub put_members-returns : goal.put_members-returns
put_members-returns t c =
    let l = c.loop-member in
    put_all _ _ _ _ l.invariant (ap (members_left l.is_first) (drop_all l.member-index c.args.members.now (omega (arith, c.loop-member-test.false))) ∙ none_left l.is_first)
