use Rattle.std.proofs.Common.{◌∙◌, ap, rules, tests}
use Rattle.std.specs.Prelude.{◌==◌, position}
use Rattle.std.proofs.lemmas.Iterator.{YieldsList-from_slice}
use Rattle.std.proofs.lemmas.Iterator.Search.{position_from_yields_List}
use Rattle.cfi_read_core.proofs.endian_slice.SliceReaderReader.find.Goals as goal

pub returns-in-Some : goal.returns-in-Some
returns-in-Some g c =
    let before = position_from_yields_List (λ x. x == c.args.byte) _ _ _ c.position.ensures.ran (YieldsList-from_slice c.slice.result.now cc) (λ x b q k. search (rules, tests))
    ∙ ap (position (λ x. x == c.args.byte)) c.slice.ensures in
    search rules

pub returns-in-None : goal.returns-in-None
returns-in-None g c =
    let before = position_from_yields_List (λ x. x == c.args.byte) _ _ _ c.position.ensures.ran (YieldsList-from_slice c.slice.result.now cc) (λ x b q k. search (rules, tests))
    ∙ ap (position (λ x. x == c.args.byte)) c.slice.ensures in
    search rules
