use Rattle.std.proofs.Common.{◌∙◌, Bor, Some, None, List, ℕ, ap, option_map, rules}
use borrow.Author.Tests.{tests}
use Rattle.std.specs.Str.{bytes_eq}
use Rattle.std.proofs.lemmas.Iterator.{YieldsList-from_slice}
use Rattle.std.proofs.lemmas.Iterator.Search.{find_from_yields_List}
use Rattle.cfi_mapped.specs.declared.opened_file.OpenedFile.{OpenedFile}
use Rattle.cfi_core_stacks.proofs.FileWindows.{bytes_found, firsts}
use Rattle.cfi_core_stacks.proofs.core_windows.bytes_named.Goals as goal

pub returns-in_err-found : goal.returns-in_err-found
returns-in_err-found c = λ all hold.
    let opened = c.args.opened.now in
    let name = c.args.name.now in
    let is = find_from_yields_List (λ (one : OpenedFile). bytes_eq one.name.now name) _ _ None c.in_err-found.ensures.ran (YieldsList-from_slice opened cc) (λ x b q k. search (rules, tests)) in
    ap (option_map (λ (bytes : Bor (List ℕ)). bytes.now)) c.from_residual.ensures ∙ (ap firsts is ∙ bytes_found name opened all hold c.requires)

pub returns : goal.returns
returns c = λ all hold.
    let opened = c.args.opened.now in
    let name = c.args.name.now in
    let found = c.in_ok-found.found in
    let is = find_from_yields_List (λ (one : OpenedFile). bytes_eq one.name.now name) c.find.new.self _ (Some found) c.in_ok-found.ensures.ran (YieldsList-from_slice opened cc) (λ x b q k. search (rules, tests)) in
    c.first.ensures ∙ (ap firsts is ∙ bytes_found name opened all hold c.requires)
