use Rattle.std.proofs.Common.{◌∙◌, ◌==◌, ◌&&◌, Bor, ap, option_map, sym, rules}
use borrow.Author.Tests.{tests}
use Rattle.std.specs.Str.{bytes_eq}
use Rattle.std.proofs.lemmas.Iterator.{YieldsList-from_slice}
use Rattle.std.proofs.lemmas.Iterator.Search.{find_from_yields_List}
use Rattle.cfi_cores.specs.declared.mapped_files.CoreMapping.{CoreMapping}
use Rattle.cfi_cores.specs.MappedFiles.{mapping_view}
use Rattle.cfi_cores.proofs.Searches.{found_as}
use Rattle.cfi_cores.proofs.builds.mapped_start.Goals as goal

pub returns-in-Some : goal.returns-in-Some
returns-in-Some c =
    let name = c.args.name.now in
    let is = find_from_yields_List (λ (m : CoreMapping). (m.offset == 0) && bytes_eq m.name.now name) _ _ c.find.result c.find.ensures.ran (YieldsList-from_slice c.args.mapped.now cc) (λ x b q k. search (rules, tests)) in
    sym (ap (option_map (λ (m : Bor CoreMapping). (mapping_view m.now).start)) c.in-Some.is) ∙ found_as mapping_view (λ m. (m.offset == 0) && bytes_eq m.name name) (λ m. m.start) c.args.mapped.now c.find.result is

pub returns-in-None : goal.returns-in-None
returns-in-None c =
    let name = c.args.name.now in
    let is = find_from_yields_List (λ (m : CoreMapping). (m.offset == 0) && bytes_eq m.name.now name) _ _ c.find.result c.find.ensures.ran (YieldsList-from_slice c.args.mapped.now cc) (λ x b q k. search (rules, tests)) in
    sym (ap (option_map (λ (m : Bor CoreMapping). (mapping_view m.now).start)) c.in-None.is) ∙ found_as mapping_view (λ m. (m.offset == 0) && bytes_eq m.name name) (λ m. m.start) c.args.mapped.now c.find.result is
