use Rattle.std.proofs.Common.{◌∙◌, ℕ, Some, None, cond, nat_lt, ap, ap₂, sym, rules}
use borrow.Author.Tests.{tests}
use Rattle.std.specs.Str.{bytes_eq}
use Rattle.std.proofs.lemmas.List.{length-map}
use Rattle.std.proofs.lemmas.Iterator.{YieldsList-from_slice}
use Rattle.std.proofs.lemmas.Iterator.Search.{position_from_yields_List}
use Rattle.cfi_processes.specs.declared.profile_files.ProfileFile.{ProfileFile}
use Rattle.cfi_processes.specs.KnownFiles.{KnownFile, known_view}
use Rattle.cfi_mapped.proofs.FileLemmas.{place_mapped}
use Rattle.cfi_core_stacks.proofs.core_code.mapped_in.Goals as goal

pub returns : goal.returns
returns c =
    let files = c.args.files.now in
    let name = c.args.mapping.now.name.now in
    let found = position_from_yields_List (λ (file : ProfileFile). bytes_eq file.name.bytes.now name) _ _ c.position.result c.position.ensures.ran (YieldsList-from_slice files cc) (λ x b q k. search (rules, tests)) in
    let there = ap₂ (λ (n m : ℕ). cond (nat_lt n m) (Some n) None) (place_mapped known_view (λ (file : KnownFile). bytes_eq file.name name) files) (sym (length-map files known_view)) in
    ap (λ object. record { start = c.args.mapping.now.start; end = c.args.mapping.now.end; offset = c.args.mapping.now.offset; object = object }) (found ∙ there)
