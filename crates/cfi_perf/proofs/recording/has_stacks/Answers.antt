use Rattle.std.proofs.Common.{◌∙◌, rules}
use borrow.Author.Tests.{tests}
use Rattle.std.proofs.lemmas.Iterator.{YieldsList-from_slice}
use Rattle.std.proofs.lemmas.Iterator.Search.{any_from_yields_List}
use Rattle.cfi_perf.specs.declared.record.Record.{Record}
use Rattle.cfi_perf.specs.Events.{record_view}
use Rattle.cfi_perf.specs.Recordings.{is_stack_sample}
use Rattle.cfi_perf.proofs.LostSums.{any_viewed}
use Rattle.cfi_perf.proofs.recording.has_stacks.Goals as goal

pub returns : goal.returns
returns c =
    any_from_yields_List (λ (r : Record). is_stack_sample (record_view r).event) _ _ _ c.any.ensures.ran (YieldsList-from_slice c.args.records.now cc) (λ x b q k. search (rules, tests))
    ∙ any_viewed (λ r. is_stack_sample r.event) c.args.records.now
