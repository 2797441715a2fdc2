use Rattle.std.proofs.Common.{◌∙◌, map, sym}
use Rattle.cfi_cores.specs.CoreSegments.{segment_view}
use Rattle.cfi_cores.specs.CoreThreads.{thread_view}
use Rattle.cfi_processes.specs.KnownFiles.{known_view}
use Rattle.cfi_core_stacks.proofs.KnownLemmas.{walked_by_part}
use Rattle.cfi_core_stacks.proofs.known_memory.walk_parts.Goals as goal

pub returns-else-walk_lacks-clause-walked : goal.returns-else-walk_lacks-clause-walked
returns-else-walk_lacks-clause-walked c = λ all of.
    walked_by_part c.args.process.now.machine (map known_view c.args.process.now.code.files.now) c.args.process.now.code.mappings.now (thread_view c.args.thread.now) c.args.parts.now all of
    (segment_view c.in_ok-stack.stack) _ c.new.ensures c.in_ok-stack.ensures c.walk_thread-found.result _ c.walk_thread-found.ensures.walked (sym c.walk_lacks.ensures ∙ c.if-walk_lacks.false)
