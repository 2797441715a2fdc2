use Rattle.std.proofs.Common.{◌∙◌, ℕ, ◌+◌, List, Option, Some, drop, nat_eq, option_map, take, ap, sym, rules}
use borrow.Author.Tests.{tests}
use Rattle.std.proofs.lemmas.Iterator.{YieldsList-from_slice}
use Rattle.std.proofs.lemmas.Iterator.Search.{position_from_yields_List}
use Rattle.cfi_mapped.specs.TextSymbols.{TextParts}
use Rattle.cfi_mapped.proofs.text_symbols.split_at_byte.Goals as goal

pub returns-in-Some : goal.returns-in-Some
returns-in-Some c =
    let text = c.args.text.now in
    let found = position_from_yields_List (λ b. nat_eq b c.args.byte) _ _ c.position.result c.position.ensures.ran (YieldsList-from_slice text cc) (λ x b q k. search (rules, tests)) in
    let made : List ℕ → Option TextParts = λ rest. Some (record { front = take c.in-Some.place text; rest = rest }) in
    ap made c.bytes_from.ensures
    ∙ ap (option_map {U = TextParts} (λ k. record { front = take k text; rest = drop (k + 1) text })) (sym c.in-Some.is ∙ found)

pub returns-in-None : goal.returns-in-None
returns-in-None c =
    let text = c.args.text.now in
    let found = position_from_yields_List (λ b. nat_eq b c.args.byte) _ _ c.position.result c.position.ensures.ran (YieldsList-from_slice text cc) (λ x b q k. search (rules, tests)) in
    ap (option_map {U = TextParts} (λ k. record { front = take k text; rest = drop (k + 1) text })) (sym c.in-None.is ∙ found)
