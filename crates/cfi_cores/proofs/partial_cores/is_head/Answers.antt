use Rattle.std.proofs.Common.{◌∙◌, ◌==◌, ◌&&◌, rules}
use borrow.Author.Tests.{tests}
use Rattle.std.proofs.lemmas.Iterator.{YieldsList-from_slice}
use Rattle.std.proofs.lemmas.Iterator.Search.{any_from_yields_List}
use Rattle.cfi_cores.specs.declared.mapped_files.CoreMapping.{CoreMapping}
use Rattle.cfi_cores.specs.MappedFiles.{mapping_view}
use Rattle.cfi_cores.proofs.Searches.{any_mapped}
use Rattle.cfi_cores.proofs.partial_cores.is_head.Goals as goal

pub returns : goal.returns
returns c =
    let a = c.args.address in
    any_from_yields_List (λ (m : CoreMapping). (m.offset == 0) && (m.start == a)) _ _ _ c.any.ensures.ran (YieldsList-from_slice c.args.mapped.now cc) (λ x b q k. search (rules, tests))
    ∙ any_mapped mapping_view (λ m. (m.offset == 0) && (m.start == a)) c.args.mapped.now
