use Rattle.std.proofs.Common.{◌∙◌, rules}
use borrow.Author.Tests.{tests}
use Rattle.std.proofs.lemmas.Iterator.{YieldsList-from_slice}
use Rattle.std.proofs.lemmas.Iterator.Search.{any_from_yields_List}
use Rattle.cfi_cores.specs.declared.thread.CoreThread.{CoreThread}
use Rattle.cfi_cores.specs.CoreThreads.{thread_view}
use Rattle.cfi_core_stacks.specs.AskedThreads.{is_asked_thread}
use Rattle.cfi_core_stacks.proofs.CoreLemmas.{any_mapped}
use Rattle.cfi_core_stacks.proofs.asked_threads.has_asked_for.Goals as goal

pub returns : goal.returns
returns c =
    any_from_yields_List (λ (t : CoreThread). is_asked_thread c.args.listing (thread_view t)) _ _ _ c.any.ensures.ran (YieldsList-from_slice c.args.threads.now cc) (λ x b q k. search (rules, tests))
    ∙ any_mapped thread_view (is_asked_thread c.args.listing) c.args.threads.now
