use Rattle.std.proofs.Common.{◌∙◌, ◌==◌, Bor, ap, option_map, sym, rules}
use borrow.Author.Tests.{tests}
use Rattle.std.proofs.lemmas.Iterator.{YieldsList-from_slice}
use Rattle.std.proofs.lemmas.Iterator.Search.{find_from_yields_List}
use Rattle.cfi_cores.specs.declared.segments.CoreSegment.{CoreSegment}
use Rattle.cfi_cores.specs.CoreSegments.{segment_view}
use Rattle.cfi_cores.proofs.Searches.{found_as}
use Rattle.cfi_cores.proofs.segments.bytes_at.Goals as goal

pub returns-in-Some : goal.returns-in-Some
returns-in-Some c =
    let a = c.args.address in
    let is = find_from_yields_List (λ (s : CoreSegment). s.start == a) _ _ c.find.result c.find.ensures.ran (YieldsList-from_slice c.args.segments.now cc) (λ x b q k. search (rules, tests)) in
    sym (ap (option_map (λ (s : Bor CoreSegment). (segment_view s.now).bytes)) c.in-Some.is) ∙ found_as segment_view (λ s. s.start == a) (λ s. s.bytes) c.args.segments.now c.find.result is

pub returns-in-None : goal.returns-in-None
returns-in-None c =
    let a = c.args.address in
    let is = find_from_yields_List (λ (s : CoreSegment). s.start == a) _ _ c.find.result c.find.ensures.ran (YieldsList-from_slice c.args.segments.now cc) (λ x b q k. search (rules, tests)) in
    sym (ap (option_map (λ (s : Bor CoreSegment). (segment_view s.now).bytes)) c.in-None.is) ∙ found_as segment_view (λ s. s.start == a) (λ s. s.bytes) c.args.segments.now c.find.result is
