use Rattle.std.proofs.Common.{◌∙◌, ◌==◌, ◌||◌, not, rules}
use borrow.Author.Tests.{tests}
use Rattle.std.proofs.lemmas.Iterator.{YieldsList-from_slice}
use Rattle.std.proofs.lemmas.Iterator.Search.{all_from_yields_List}
use Rattle.cfi_cores.specs.declared.segments.CoreSegment.{CoreSegment}
use Rattle.cfi_cores.specs.CoreSegments.{segment_view}
use Rattle.cfi_core_stacks.proofs.CoreLemmas.{all_mapped}
use Rattle.cfi_core_stacks.proofs.core_files.is_code.Goals as goal

pub returns : goal.returns
returns c =
    let start = c.args.mapping.now.start in
    all_from_yields_List (λ (s : CoreSegment). s.is_executable || not (s.start == start)) _ _ _ c.all.ensures.ran (YieldsList-from_slice c.args.segments.now cc) (λ x b q k. search (rules, tests))
    ∙ all_mapped segment_view (λ s. s.is_executable || not (s.start == start)) c.args.segments.now
